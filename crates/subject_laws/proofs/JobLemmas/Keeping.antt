-- An event keeps the births of its job and of those in the line of its object.
use Rattle.std.proofs.Common.{◌≡◌, ℕ, zero, suc, ◌+◌, ◌<◌, true, false, not, List, [], ◌∷◌, ◌++◌, length, drop, refl, sym, ap, ◌∙◌, subst, arith, length-append}
use Rattle.std.specs.Prelude.{Contains, IsTrue, ◌==◌, if◌then◌else◌, slice_index}
use Rattle.std.proofs.Math.ListN.{get_or-append}
use Rattle.std.proofs.Math.Seq.{get_or-append_seam}
use Rattle.event_key.specs.Stamps.{time_part}
use Rattle.delta_exchange.specs.Changes.{CellData, line_of, cells_after_all}
use Rattle.model_core.specs.declared.effect.Effect.{Effect}
use Rattle.model_core.specs.declared.event.Event.{Event}
use Rattle.sim_spec.specs.Firing.{emission, emissions}
use Rattle.queue_models.specs.declared.station.Station.{Station as StationOver}
use Rattle.queue_models.specs.declared.kind.KindOver.{KindOver}
use Rattle.queue_models.specs.declared.kind.KindOver.TheVariants.{Source, Station}
use Rattle.queue_models.specs.declared.source.Source.{Source as SourceOver}
use Rattle.queue_models.specs.Kinds.{is_lawful, is_source, IsKind}
use Rattle.queue_models.specs.Meaning.{site_of}
use Rattle.queue_models.specs.Objects.{NetworkParts, object_at}
use Rattle.queue_models.specs.Parts.{IsLink}
use Rattle.queue_models.specs.Sites.{place_of, drawn_at, job_to}
use Rattle.queue_models.specs.Sources.{made_of, left_of, idle_effect, last_effect, make_effect}
use Rattle.queue_models.specs.Stations.{done_after, take_effect, wait_effect, lose_effect, serve_effect, free_effect}
use Rattle.subject_laws.proofs.QueueLemmas.Cases.{SourceDoes, idles, makes_last, makes, StationDoes, takes, waits, loses, serves, frees, PlainDoes, is_moving, hands_on, leaves, EventDoes}
use Rattle.subject_laws.proofs.QueueLemmas.Leaves.{HasStationCells, source_cells, place_cells, station_shape, source_shape, plain_shape, take_leaves, wait_leaves, serve_leaves}
use Rattle.subject_laws.proofs.QueueLemmas.ServersLaw.{lose_leaves}
use Rattle.subject_laws.specs.Places.{Place, at_event, in_line, has_left, was_lost, own_place, moved_up, word_told}
use Rattle.subject_laws.specs.Jobs.{is_of_job}
use Rattle.subject_laws.proofs.JobLemmas.Balance.{own_place-moving}

-- where a birth comes to stand by an event at an object: at an event that is sent, or in the line of births
abbrev pub IsPut : NetworkParts → ℕ → List Event → List ℕ → ℕ → Place → Type 0
IsPut p d sent line birth (at_event k) = (x : Event) × Contains sent x × (is_of_job p x ≡ true) × (x.key ≡ k) × (x.b ≡ birth)
IsPut p d sent line birth (in_line i k) = (i ≡ d) × (k < length line) × (slice_index line k ≡ birth)
IsPut p d sent line birth has_left = Unit {0}
IsPut p d sent line birth was_lost = Unit {0}

-- what an event does with births: with that of its own job, with those in line, and with the one of a job that it makes
pub record KeepsBirths (p : NetworkParts) (e : Event) (cells : CellData) (word : ℕ) (sent : List Event) (line : List ℕ) : Type 0 where
  pub own : is_source (object_at p.objects e.key.dest).kind ≡ false → IsPut p e.key.dest sent line e.b (own_place word e.key.dest (length (line_of cells 0)) sent)
  pub others : (k : ℕ) → k < length (line_of cells 1)
      → IsPut p e.key.dest sent line (slice_index (line_of cells 1) k) (if word == 6 then moved_up sent e.key.dest k else in_line e.key.dest k)
  pub made : (y : Event) (ys : List Event) → word ≡ 2 → sent ≡ y ∷ ys → (is_of_job p y ≡ true) × (y.b ≡ time_part e.key.stamp)

abbrev pub Keeps : NetworkParts → Event → CellData → Effect → ℕ → Type 0
Keeps p e cells x serial = KeepsBirths p e cells (word_told x.note) (emissions e.key.stamp e.key.dest serial x.sends) (line_of (cells_after_all x.changes cells) 1)

-- a birth in a line that stays
stays_at : (line after : List ℕ) → after ≡ line → (k : ℕ) → k < length line → (k < length after) × (slice_index after k ≡ slice_index line k)
stays_at line after same k within = ((let long : length after ≡ length line = ap (λ (xs : List ℕ). length xs) same in omega arith), ap (λ (xs : List ℕ). slice_index xs k) same)

grows_at : (line after : List ℕ) (birth : ℕ) → after ≡ line ++ birth ∷ [] → (k : ℕ) → k < length line → (k < length after) × (slice_index after k ≡ slice_index line k)
grows_at line after birth same k within = (
  (let long : length after ≡ length (line ++ birth ∷ []) = ap (λ (xs : List ℕ). length xs) same in
      let more : length (line ++ birth ∷ []) ≡ length line + 1 = length-append line (birth ∷ []) in omega arith),
  ap (λ (xs : List ℕ). slice_index xs k) same ∙ get_or-append line (birth ∷ []) 0 k within,
)

grows_by : (line after : List ℕ) (birth k : ℕ) → after ≡ line ++ birth ∷ [] → k ≡ length line → (k < length after) × (slice_index after k ≡ birth)
grows_by line after birth k same at = (
  (let long : length after ≡ length (line ++ birth ∷ []) = ap (λ (xs : List ℕ). length xs) same in
      let more : length (line ++ birth ∷ []) ≡ length line + 1 = length-append line (birth ∷ []) in omega arith),
  ap (λ (xs : List ℕ). slice_index xs k) same ∙ ap (slice_index (line ++ birth ∷ [])) at ∙ get_or-append_seam line birth [] 0,
)

moves_up_at : (line after : List ℕ) → after ≡ drop 1 line → (k : ℕ) → suc k < length line → (k < length after) × (slice_index after k ≡ slice_index line (suc k))
moves_up_at [] after same k within = absurd (omega arith)
moves_up_at (first ∷ line) after same k within =
    ((let long : length after ≡ length line = ap (λ (xs : List ℕ). length xs) same in omega arith), ap (λ (xs : List ℕ). slice_index xs k) same)

station_keeps : (p : NetworkParts) (e : Event) (cells : CellData) (station : StationOver ℕ) (x : Effect) (serial : ℕ)
    → is_source (object_at p.objects e.key.dest).kind ≡ false → is_source (object_at p.objects station.next).kind ≡ false → HasStationCells cells
    → StationDoes (site_of p e.key.dest) cells e station x → Keeps p e cells x serial
unfolding emissions take_effect wait_effect lose_effect serve_effect free_effect
station_keeps p e cells station x serial here next has (takes other free) =
    let d : ℕ = e.key.dest in
    let end : Event = emission e.key.stamp d serial (done_after (site_of p d) (drawn_at (site_of p d) cells station.service).0 e.a e.b) in
    let kept = ap (λ (c : CellData). line_of c 1) (take_leaves (site_of p d) station cells e has) in
    record {
      own = λ no_source. (end, (0, (omega arith), refl), ap not here, refl, refl);
      others = λ k within. (let at = stays_at (line_of cells 1) _ kept k within in (refl, at.0, at.1));
      made = λ y ys word is. absurd (let w : ◌≡◌ {A = ℕ} 3 2 = word in omega arith);
    }
station_keeps p e cells station x serial here next has (waits other full room) =
    let d : ℕ = e.key.dest in
    let kept = ap (λ (c : CellData). line_of c 1) (wait_leaves cells e has) in
    record {
      own = λ no_source. (let at = grows_by (line_of cells 1) _ e.b (length (line_of cells 0)) kept has.births in (refl, at.0, at.1));
      others = λ k within. (let at = grows_at (line_of cells 1) _ e.b kept k within in (refl, at.0, at.1));
      made = λ y ys word is. absurd (let w : ◌≡◌ {A = ℕ} 4 2 = word in omega arith);
    }
station_keeps p e cells station x serial here next has (loses other full none) =
    let kept = ap (λ (c : CellData). line_of c 1) (lose_leaves cells e) in
    record {
      own = λ no_source. tt;
      others = λ k within. (let at = stays_at (line_of cells 1) _ kept k within in (refl, at.0, at.1));
      made = λ y ys word is. absurd (let w : ◌≡◌ {A = ℕ} 5 2 = word in omega arith);
    }
station_keeps p e cells station x serial here next has (serves done some) =
    let d : ℕ = e.key.dest in
    let gone : Event = emission e.key.stamp d serial (job_to (site_of p d) station.next 0 e.a e.b) in
    let kept = ap (λ (c : CellData). line_of c 1) (serve_leaves (site_of p d) station cells e has) in
    record {
      own = λ no_source. (gone, (0, (omega arith), refl), ap not next, refl, refl);
      others = λ k within. by kept k within;
      made = λ y ys word is. absurd (let w : ◌≡◌ {A = ℕ} 6 2 = word in omega arith);
    }
  where
    by : line_of (cells_after_all (serve_effect (site_of p e.key.dest) station cells e).changes cells) 1 ≡ drop 1 (line_of cells 1) → (k : ℕ) → k < length (line_of cells 1)
        → IsPut p e.key.dest (emissions e.key.stamp e.key.dest serial (serve_effect (site_of p e.key.dest) station cells e).sends)
        (line_of (cells_after_all (serve_effect (site_of p e.key.dest) station cells e).changes cells) 1) (slice_index (line_of cells 1) k)
        (moved_up (emissions e.key.stamp e.key.dest serial (serve_effect (site_of p e.key.dest) station cells e).sends) e.key.dest k)
    by kept zero within =
        let d : ℕ = e.key.dest in (
          emission e.key.stamp d (serial + 1) (done_after (site_of p d) (drawn_at (site_of p d) cells station.service).0 (slice_index (line_of cells 0) 0) (slice_index (line_of cells 1) 0)),
          (1, (omega arith), refl),
          ap not here,
          refl,
          refl,
        )
    by kept (suc k) within = (let at = moves_up_at (line_of cells 1) _ kept k within in (refl, at.0, at.1))
station_keeps p e cells station x serial here next has (frees done none) =
    let d : ℕ = e.key.dest in
    let gone : Event = emission e.key.stamp d serial (job_to (site_of p d) station.next 0 e.a e.b) in
    record {
      own = λ no_source. (gone, (0, (omega arith), refl), ap not next, refl, refl);
      others = λ k within. absurd (omega (arith, none, has.births));
      made = λ y ys word is. absurd (let w : ◌≡◌ {A = ℕ} 6 2 = word in omega arith);
    }

-- an object without a line
no_birth : {A : Type 0} (cells : CellData) → line_of cells 1 ≡ [] → (k : ℕ) → k < length (line_of cells 1) → A
no_birth cells none k within = absurd (let long : length (line_of cells 1) ≡ 0 = ap (λ (xs : List ℕ). length xs) none in omega arith)

source_keeps : (p : NetworkParts) (e : Event) (cells : CellData) (source : SourceOver ℕ) (x : Effect) (serial : ℕ)
    → is_source (object_at p.objects e.key.dest).kind ≡ true → is_source (object_at p.objects source.next).kind ≡ false → cells ≡ source_cells (place_of cells) (made_of cells) (left_of cells)
    → SourceDoes (site_of p e.key.dest) cells e source x → Keeps p e cells x serial
unfolding emissions idle_effect last_effect make_effect
source_keeps p e cells source x serial here next are (idles none) = record {
  own = λ no_source. absurd (cc);
  others = λ k within. no_birth cells (ap (λ (c : CellData). line_of c 1) are) k within;
  made = λ y ys word is. absurd (cc);
}
source_keeps p e cells source x serial here next are (makes_last one) = record {
  own = λ no_source. absurd (cc);
  others = λ k within. no_birth cells (ap (λ (c : CellData). line_of c 1) are) k within;
  made = λ y ys word is.
      let gone : Event = emission e.key.stamp e.key.dest serial (job_to (site_of p e.key.dest) source.next 0 (made_of cells + 1) (time_part e.key.stamp)) in
      let same : gone ≡ y = first_is gone y [] ys is in
      (sym (ap (is_of_job p) same) ∙ ap not next, sym (ap (λ (z : Event). z.b) same));
}
  where
    first_is : (a b : Event) (rest more : List Event) → a ∷ rest ≡ b ∷ more → a ≡ b
    first_is a b rest more same = cc
source_keeps p e cells source x serial here next are (makes more) = record {
  own = λ no_source. absurd (cc);
  others = λ k within. no_birth cells (ap (λ (c : CellData). line_of c 1) are) k within;
  made = λ y ys word is.
      let gone : Event = emission e.key.stamp e.key.dest serial (job_to (site_of p e.key.dest) source.next 0 (made_of cells + 1) (time_part e.key.stamp)) in
      let same : gone ≡ y = first_is gone y _ ys is in
      (sym (ap (is_of_job p) same) ∙ ap not next, sym (ap (λ (z : Event). z.b) same));
}
  where
    first_is : (a b : Event) (rest more : List Event) → a ∷ rest ≡ b ∷ more → a ≡ b
    first_is a b rest more same = cc

-- no job is made by an object that hands one on
no_make : (word : ℕ) → is_moving word ≡ true → word ≡ 2 → ⊥
no_make word moving two =
    let M : ℕ → Type 0 = λ w. is_moving w ≡ true in
    let never : is_moving 2 ≡ true = subst M two moving in
    (cc)

plain_keeps : (p : NetworkParts) (e : Event) (cells : CellData) (kind : KindOver ℕ) (x : Effect) (serial : ℕ) → cells ≡ place_cells (place_of cells)
    → PlainDoes p.objects (site_of p e.key.dest) cells e kind x → Keeps p e cells x serial
unfolding emissions
plain_keeps p e cells kind x serial are (hands_on {changes = changes} {dest = dest} {delay = delay} {word = word} {b = b} there moving after draws) =
    let d : ℕ = e.key.dest in
    let gone : Event = emission e.key.stamp d serial (job_to (site_of p d) dest delay e.a e.b) in
    let P : Place → Type 0 = IsPut p d (gone ∷ []) (line_of (cells_after_all changes cells) 1) e.b in
    record {
      own = λ no_source. subst P (sym (own_place-moving word d (length (line_of cells 0)) (gone ∷ []) moving)) (gone, (0, (omega arith), refl), ap not there, refl, refl);
      others = λ k within. no_birth cells (ap (λ (c : CellData). line_of c 1) are) k within;
      made = λ y ys two is. absurd (no_make word moving two);
    }
plain_keeps p e cells kind x serial are (leaves none) = record {
  own = λ no_source. tt;
  others = λ k within. no_birth cells (ap (λ (c : CellData). line_of c 1) are) k within;
  made = λ y ys word is. absurd (let w : ◌≡◌ {A = ℕ} 9 2 = word in omega arith);
}

pub keeps : (p : NetworkParts) (e : Event) (cells : CellData) (kind : KindOver ℕ) (x : Effect) (serial : ℕ) → (object_at p.objects e.key.dest).kind ≡ kind
    → IsKind (IsLink p.objects) kind → IsTrue (is_lawful kind cells) → EventDoes p.objects (site_of p e.key.dest) cells e kind x → Keeps p e cells x serial
keeps p e cells (Station station) x serial is fine lawful does_so =
    station_keeps p e cells station x serial (ap is_source is) fine.1.takes (station_shape station.servers station.line cells lawful) does_so
keeps p e cells (Source source) x serial is fine lawful does_so =
    source_keeps p e cells source x serial (ap is_source is) fine.1.takes (source_shape source.count cells lawful) does_so
keeps p e cells other x serial is fine lawful does_so =
    plain_keeps p e cells other x serial (plain_shape cells lawful) does_so
