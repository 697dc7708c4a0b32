-- An event moves its job, the first of the line where a service is done, and the job that a source makes, and none else.
use Rattle.std.proofs.Common.{◌≡◌, ℕ, ◌+◌, Bool, true, false, List, [], ◌∷◌, length, drop, refl, ap, ◌∙◌, arith}
use Rattle.std.specs.Prelude.{IsTrue, not, ◌||◌, ◌==◌, if◌then◌else◌, sum_by, slice_index}
use Rattle.event_key.specs.Stamps.{time_part}
use Rattle.delta_exchange.specs.Changes.{CellData, line_of, cells_after_all}
use Rattle.model_core.specs.declared.effect.Effect.{Effect}
use Rattle.model_core.specs.declared.event.Event.{Event}
use Rattle.sim_spec.specs.Firing.{emission, emissions}
use Rattle.queue_models.specs.declared.station.Station.{Station as StationOver}
use Rattle.queue_models.specs.declared.kind.KindOver.{KindOver}
use Rattle.queue_models.specs.declared.kind.KindOver.TheVariants.{Source, Station}
use Rattle.queue_models.specs.declared.site.Site.{Site}
use Rattle.queue_models.specs.declared.source.Source.{Source as SourceOver}
use Rattle.queue_models.specs.Kinds.{is_lawful, is_source, IsKind}
use Rattle.queue_models.specs.Meaning.{site_of}
use Rattle.queue_models.specs.Objects.{NetworkParts, object_at}
use Rattle.queue_models.specs.Parts.{IsLink}
use Rattle.queue_models.specs.Sites.{place_of, drawn_at, job_to}
use Rattle.queue_models.specs.Sources.{made_of, left_of, idle_effect, last_effect, make_effect}
use Rattle.queue_models.specs.Stations.{done_after, take_effect, wait_effect, lose_effect, serve_effect, free_effect}
use Rattle.subject_laws.proofs.QueueLemmas.Cases.{SourceDoes, idles, makes_last, makes, StationDoes, takes, waits, loses, serves, frees, PlainDoes, hand_effect, leave_effect, is_moving, hands_on, leaves, EventDoes}
use Rattle.subject_laws.proofs.QueueLemmas.Leaves.{HasStationCells, source_cells, place_cells, station_shape, source_shape, plain_shape, take_leaves, wait_leaves, serve_leaves, free_leaves, last_leaves, make_leaves, no_change_leaves}
use Rattle.subject_laws.proofs.QueueLemmas.OrderLaw.{empty_list, first_of_line}
use Rattle.subject_laws.proofs.QueueLemmas.ServersLaw.{lose_leaves}
use Rattle.subject_laws.specs.Places.{Place, at_event, in_line, has_left, was_lost, key_number, own_place, word_told, job_told}
use Rattle.subject_laws.specs.Jobs.{made_by, Job, newly_made}
use Rattle.subject_laws.proofs.JobLemmas.Moving.{moved_weight, own_moves, no_job, has_job, line_stays, line_served, line_grows}
use Rattle.subject_laws.proofs.JobLemmas.Weights.{Live, job_weight, event_weight, line_weight}

-- what stands at the event and in the line of its object before it, moved, and what is made, is what it sends and that line after it
abbrev pub Balances : NetworkParts → (ℕ × Place → ℕ) → Event → CellData → Effect → ℕ → Type 0
Balances p w e cells x serial =
    let sent = emissions e.key.stamp e.key.dest serial x.sends in
    let move = moved_weight w e.key (word_told x.note) (length (line_of cells 0)) sent in
    event_weight p move e + sum_by (job_weight w) (newly_made (word_told x.note) e.key.dest (job_told x.note) sent) + line_weight move e.key.dest (line_of cells 0)
    ≡ sum_by (event_weight p w) sent + line_weight w e.key.dest (line_of (cells_after_all x.changes cells) 0)

station_balances : (p : NetworkParts) (w : ℕ × Place → ℕ) (e : Event) (cells : CellData) (station : StationOver ℕ) (x : Effect) (serial : ℕ) → Live w
    → is_source (object_at p.objects e.key.dest).kind ≡ false → is_source (object_at p.objects station.next).kind ≡ false → HasStationCells cells
    → StationDoes (site_of p e.key.dest) cells e station x → Balances p w e cells x serial
unfolding emissions take_effect wait_effect lose_effect serve_effect free_effect
station_balances p w e cells station x serial live here next has (takes other free) =
    let d : ℕ = e.key.dest in
    let line : List ℕ = line_of cells 0 in
    let end : Event = emission e.key.stamp d serial (done_after (site_of p d) (drawn_at (site_of p d) cells station.service).0 e.a e.b) in
    let sent : List Event = end ∷ [] in
    omega (
      arith,
      own_moves p w e 3 (length line) sent here,
      has_job p w end here,
      line_stays w e.key 3 (length line) sent d 0 line refl,
      ap (line_weight w d) (ap (λ c. line_of c 0) (take_leaves (site_of p d) station cells e has)),
    )
station_balances p w e cells station x serial live here next has (waits other full room) =
    let d : ℕ = e.key.dest in
    let line : List ℕ = line_of cells 0 in
    let at : 0 + length line ≡ length line = omega arith in
    omega (
      arith,
      own_moves p w e 4 (length line) [] here,
      line_stays w e.key 4 (length line) [] d 0 line refl,
      line_grows w d 0 line e.a,
      ap (λ j. w (e.a, in_line d j)) at,
      ap (line_weight w d) (ap (λ c. line_of c 0) (wait_leaves cells e has)),
    )
station_balances p w e cells station x serial live here next has (loses other full none) =
    let d : ℕ = e.key.dest in
    let line : List ℕ = line_of cells 0 in
    omega (
      arith,
      own_moves p w e 5 (length line) [] here,
      live.lost e.a,
      line_stays w e.key 5 (length line) [] d 0 line refl,
      ap (line_weight w d) (ap (λ c. line_of c 0) (lose_leaves cells e)),
    )
station_balances p w e cells station x serial live here next has (serves done some) =
    let d : ℕ = e.key.dest in
    let line : List ℕ = line_of cells 0 in
    let job : ℕ = slice_index line 0 in
    let gone : Event = emission e.key.stamp d serial (job_to (site_of p d) station.next 0 e.a e.b) in
    let end : Event = emission e.key.stamp d (serial + 1) (done_after (site_of p d) (drawn_at (site_of p d) cells station.service).0 job (slice_index (line_of cells 1) 0)) in
    let sent : List Event = gone ∷ end ∷ [] in
    let move : ℕ × Place → ℕ = moved_weight w e.key 6 (length line) sent in
    omega (
      arith,
      own_moves p w e 6 (length line) sent here,
      has_job p w gone next,
      has_job p w end here,
      ap (line_weight move d) (first_of_line line some),
      line_served w e.key (length line) sent job (drop 1 line),
      ap (line_weight w d) (ap (λ c. line_of c 0) (serve_leaves (site_of p d) station cells e has)),
    )
station_balances p w e cells station x serial live here next has (frees done none) =
    let d : ℕ = e.key.dest in
    let line : List ℕ = line_of cells 0 in
    let empty : line ≡ [] = empty_list line none in
    let gone : Event = emission e.key.stamp d serial (job_to (site_of p d) station.next 0 e.a e.b) in
    let sent : List Event = gone ∷ [] in
    omega (
      arith,
      own_moves p w e 6 (length line) sent here,
      has_job p w gone next,
      ap (line_weight (moved_weight w e.key 6 (length line) sent) d) empty,
      ap (line_weight w d) (ap (λ c. line_of c 0) (free_leaves (site_of p d) station cells e has) ∙ empty),
    )

-- an object without a line
no_line : (p : NetworkParts) (w : ℕ × Place → ℕ) (e : Event) (cells : CellData) (x : Effect) (serial : ℕ) → line_of cells 0 ≡ [] → line_of (cells_after_all x.changes cells) 0 ≡ []
    → (let sent : List Event = emissions e.key.stamp e.key.dest serial x.sends in
    event_weight p (moved_weight w e.key (word_told x.note) (length (line_of cells 0)) sent) e + sum_by (job_weight w) (newly_made (word_told x.note) e.key.dest (job_told x.note) sent)
    ≡ sum_by (event_weight p w) sent)
    → Balances p w e cells x serial
no_line p w e cells x serial before after same =
    let sent : List Event = emissions e.key.stamp e.key.dest serial x.sends in
    let move : ℕ × Place → ℕ = moved_weight w e.key (word_told x.note) (length (line_of cells 0)) sent in
    omega (arith, same, ap (line_weight move e.key.dest) before, ap (line_weight w e.key.dest) after)

pub idle_leaves : (cells : CellData) → cells_after_all (idle_effect cells).changes cells ≡ cells
unfolding idle_effect cells_after_all
idle_leaves cells = refl

source_balances : (p : NetworkParts) (w : ℕ × Place → ℕ) (e : Event) (cells : CellData) (source : SourceOver ℕ) (x : Effect) (serial : ℕ) → Live w
    → is_source (object_at p.objects e.key.dest).kind ≡ true → is_source (object_at p.objects source.next).kind ≡ false → cells ≡ source_cells (place_of cells) (made_of cells) (left_of cells)
    → SourceDoes (site_of p e.key.dest) cells e source x → Balances p w e cells x serial
unfolding emissions idle_effect last_effect make_effect
source_balances p w e cells source x serial live here next are (idles none) =
    let before : line_of cells 0 ≡ [] = ap (λ c. line_of c 0) are in
    no_line p w e cells (idle_effect cells) serial before (ap (λ c. line_of c 0) (idle_leaves cells) ∙ before)
    (omega (arith, no_job p (moved_weight w e.key 2 (length (line_of cells 0)) []) e here))
source_balances p w e cells source x serial live here next are (makes_last one) =
    let d : ℕ = e.key.dest in
    let time : ℕ = time_part e.key.stamp in
    let gone : Event = emission e.key.stamp d serial (job_to (site_of p d) source.next 0 (made_of cells + 1) time) in
    no_line p w e cells (last_effect (site_of p d) source cells time) serial (ap (λ c. line_of c 0) are) (ap (λ c. line_of c 0) (last_leaves (site_of p d) source cells time are))
    (omega (arith, no_job p (moved_weight w e.key 2 (length (line_of cells 0)) (gone ∷ [])) e here, has_job p w gone next))
source_balances p w e cells source x serial live here next are (makes more) =
    let d : ℕ = e.key.dest in
    let time : ℕ = time_part e.key.stamp in
    let gone : Event = emission e.key.stamp d serial (job_to (site_of p d) source.next 0 (made_of cells + 1) time) in
    let again : Event = emission e.key.stamp d (serial + 1) (record { dest = d; delay = (drawn_at (site_of p d) cells source.every).0; kind = 1; a = 0; b = 0; rank = (site_of p d).rank }) in
    no_line p w e cells (make_effect (site_of p d) source cells time) serial (ap (λ c. line_of c 0) are) (ap (λ c. line_of c 0) (make_leaves (site_of p d) source cells time are))
    (omega (arith, no_job p (moved_weight w e.key 2 (length (line_of cells 0)) (gone ∷ again ∷ [])) e here, has_job p w gone next, no_job p w again here))

-- a job that an object hands on stands at what is sent, and none is made
pub own_place-moving : (word object waiting : ℕ) (sent : List Event) → is_moving word ≡ true → own_place word object waiting sent ≡ at_event (key_number sent 0)
own_place-moving word object waiting sent moving = by (word == 2) (word == 4) (word == 5) (word == 9) moving
  where
    by : (two four five nine : Bool) → not (two || four || five || nine) ≡ true
        → (if nine then has_left else if five then was_lost else if four then in_line object waiting else at_event (key_number sent 0)) ≡ at_event (key_number sent 0)
    by true four five nine moving = cc
    by false true five nine moving = cc
    by false false true nine moving = cc
    by false false false true moving = cc
    by false false false false moving = refl

newly_made-moving : (word source number : ℕ) (e : Event) → is_moving word ≡ true → newly_made word source number (e ∷ []) ≡ []
newly_made-moving word source number e moving = by (word == 2) (word == 4) (word == 5) (word == 9) moving
  where
    made : Job × Place
    made = (record { origin = made_by source; number = number }, at_event e.key)

    by : (two four five nine : Bool) → not (two || four || five || nine) ≡ true → (if two then made ∷ [] else []) ≡ []
    by true four five nine moving = cc
    by false four five nine moving = refl

plain_balances : (p : NetworkParts) (w : ℕ × Place → ℕ) (e : Event) (cells : CellData) (kind : KindOver ℕ) (x : Effect) (serial : ℕ) → Live w
    → is_source (object_at p.objects e.key.dest).kind ≡ false → cells ≡ place_cells (place_of cells)
    → PlainDoes p.objects (site_of p e.key.dest) cells e kind x → Balances p w e cells x serial
unfolding emissions
plain_balances p w e cells kind x serial live here are (hands_on {changes = changes} {dest = dest} {delay = delay} {word = word} {b = b} there moving after draws) =
    let d : ℕ = e.key.dest in
    let site : Site = site_of p d in
    let waiting : ℕ = length (line_of cells 0) in
    let gone : Event = emission e.key.stamp d serial (job_to site dest delay e.a e.b) in
    no_line p w e cells (hand_effect site e changes dest delay word b) serial (ap (λ c. line_of c 0) are) (ap (λ c. line_of c 0) after)
    (omega (
      arith,
      own_moves p w e word waiting (gone ∷ []) here,
      ap (λ place. w (e.a, place)) (own_place-moving word d waiting (gone ∷ []) moving),
      ap (sum_by (job_weight w)) (newly_made-moving word d e.a gone moving),
      has_job p w gone there,
    ))
plain_balances p w e cells kind x serial live here are (leaves none) =
    let before : line_of cells 0 ≡ [] = ap (λ c. line_of c 0) are in
    no_line p w e cells (leave_effect e) serial before (ap (λ c. line_of c 0) (no_change_leaves cells) ∙ before)
    (omega (arith, own_moves p w e 9 (length (line_of cells 0)) [] here, live.left e.a))

pub balances : (p : NetworkParts) (w : ℕ × Place → ℕ) (e : Event) (cells : CellData) (kind : KindOver ℕ) (x : Effect) (serial : ℕ) → Live w
    → (object_at p.objects e.key.dest).kind ≡ kind → IsKind (IsLink p.objects) kind → IsTrue (is_lawful kind cells)
    → EventDoes p.objects (site_of p e.key.dest) cells e kind x → Balances p w e cells x serial
balances p w e cells (Station station) x serial live is fine lawful does_so =
    station_balances p w e cells station x serial live (ap is_source is) fine.1.takes (station_shape station.servers station.line cells lawful) does_so
balances p w e cells (Source source) x serial live is fine lawful does_so =
    source_balances p w e cells source x serial live (ap is_source is) fine.1.takes (source_shape source.count cells lawful) does_so
balances p w e cells other x serial live is fine lawful does_so =
    plain_balances p w e cells other x serial live (ap is_source is) (plain_shape cells lawful) does_so
