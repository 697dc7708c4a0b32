-- The places that jobs hold are those of the state, after each event.
use Rattle.std.proofs.lemmas.Bool.{and_right}
use Rattle.std.proofs.Common.{◌≡◌, ℕ, zero, suc, ◌+◌, ◌-◌, ◌<◌, ◌≤◌, true, false, List, [], ◌∷◌, ◌++◌, length, map, refl, sym, ap, ◌∙◌, subst, arith, ne_eqb}
use Rattle.std.specs.Prelude.{sum_by, slice_index, ◌==◌}
use Rattle.std.specs.List.{range_with_len}
use Rattle.std.proofs.lemmas.List.Elements.{filter_passes}
use Rattle.std.proofs.lemmas.List.Sums.{sum_by-cons, sum_by-append}
use Rattle.event_key.specs.declared.key.Key.{Key}
use Rattle.event_key.specs.Keys.{key_lt}
use Rattle.event_key.proofs.Order.{key_lt-irrefl}
use Rattle.delta_exchange.specs.Changes.{CellData, line_of, cells_after_all}
use Rattle.model_core.specs.declared.effect.Effect.{Effect}
use Rattle.model_core.specs.declared.event.Event.{Event}
use Rattle.model_core.specs.declared.note.Note.{Note}
use Rattle.sim_spec.specs.declared.terms.Terms.{Terms}
use Rattle.key_order.specs.Ascending.{IsAscending, Ascends}
use Rattle.sim_spec.specs.State.{State, initial_state, start_event, event_of_start, object_at as state_at}
use Rattle.sim_spec.specs.Run.{does}
use Rattle.key_order.proofs.EachLemmas.{Each-map}
use Rattle.queue_models.specs.declared.kind.KindOver.{KindOver}
use Rattle.queue_models.specs.declared.kind.KindOver.TheVariants.{Source, Station}
use Rattle.queue_models.specs.Kinds.{first_cells_of, is_source}
use Rattle.queue_models.specs.Meaning.{plain_meaning, network_meaning, source_start, job_start}
use Rattle.queue_models.specs.ModelLaws.{object_fine}
use Rattle.queue_models.specs.Objects.{NetworkParts, object_at, source_numbers, sources_below}
use Rattle.queue_models.specs.Parts.{IsNetwork}
use Rattle.run_laws.specs.Sent.{sent_next}
use Rattle.run_laws.proofs.Steps.{first_firing, sent_next-step}
use Rattle.subject_laws.specs.Stations.{cells_at, waiting_at}
use Rattle.subject_laws.proofs.QueueLemmas.NetworkStarts.{cells_at_start, start_cases, sum_at_start}
use Rattle.subject_laws.proofs.QueueLemmas.NetworkSteps.{IsNetworkStep, cells_here, cells_elsewhere, sum_before, sum_after}
use Rattle.subject_laws.specs.Places.{Place, at_event, in_line, has_left, was_lost, word_told, job_told, place_after}
use Rattle.subject_laws.specs.Jobs.{Job, listed, held, newly_made, places_after, first_places, in_the_system}
use Rattle.subject_laws.proofs.JobLemmas.Balance.{balances}
use Rattle.subject_laws.proofs.JobLemmas.Moving.{moved_weight, no_job, has_job, other_stays, line_stays}
use Rattle.subject_laws.proofs.JobLemmas.Weights.{sum_by-map, sum_by-same, sum_by-equal, range-change, Live, inside, inside-live, job_weight, sum-held, event_weight, line_weight, sum-in_the_system, sum-inside}

-- whatever places weigh, those that jobs hold weigh as much as those of the state
abbrev pub Agree : NetworkParts → State → List (Job × Place) → Type 0
Agree p s jobs = (w : ℕ × Place → ℕ) → sum_by w (held jobs) ≡ sum_by w (in_the_system p s)

-- the jobs after an event of this key, which tells this note and sends these events
abbrev pub moved_jobs : Key → Note → ℕ → List Event → List (Job × Place) → List (Job × Place)
moved_jobs key note waiting sent jobs =
    map (λ (job : Job × Place). (job.0, place_after key (word_told note) waiting sent job.1)) jobs ++ newly_made (word_told note) key.dest (job_told note) sent

pub places_after-step : (p : NetworkParts) (t : Terms) (s : State) (told : Key × Note) (after : State) (n : IsNetworkStep p t s told after) (jobs : List (Job × Place))
    → places_after p s jobs (does told after)
    ≡ moved_jobs n.step.event.key n.step.effect.note (length (waiting_at s n.step.event.key.dest)) (first_firing s n.step.event n.step.effect).events jobs
places_after-step p t s told after n jobs =
    ap (λ (r : Key × Note). moved_jobs r.0 r.1 (length (waiting_at s r.0.dest)) (sent_next (plain_meaning p) s) jobs) n.step.tells
    ∙ ap (λ (sent : List Event). moved_jobs n.step.event.key n.step.effect.note (length (waiting_at s n.step.event.key.dest)) sent jobs)
    (sent_next-step (plain_meaning p) t s told after n.step)

-- who is out stays out
inside_moved : (v : ℕ × Place → ℕ) (key : Key) (word waiting : ℕ) (sent : List Event) → Live v → (number : ℕ) (place : Place)
    → inside (moved_weight v key word waiting sent) (number, place) ≡ moved_weight v key word waiting sent (number, place)
inside_moved v key word waiting sent live number (at_event k) = refl
inside_moved v key word waiting sent live number (in_line i k) = refl
inside_moved v key word waiting sent live number has_left = sym (live.left number)
inside_moved v key word waiting sent live number was_lost = sym (live.lost number)

-- the weight of the jobs after an event
moved_sum : (v : ℕ × Place → ℕ) (key : Key) (note : Note) (waiting : ℕ) (sent : List Event) (jobs : List (Job × Place)) → Live v
    → sum_by (job_weight v) (moved_jobs key note waiting sent jobs)
    ≡ sum_by (moved_weight v key (word_told note) waiting sent) (held jobs) + sum_by (job_weight v) (newly_made (word_told note) key.dest (job_told note) sent)
moved_sum v key note waiting sent jobs live =
    let move : ℕ × Place → ℕ = moved_weight v key (word_told note) waiting sent in
    let f : Job × Place → Job × Place = λ job. (job.0, place_after key (word_told note) waiting sent job.1) in
    omega (
      arith,
      sum_by-append (job_weight v) (map f jobs) (newly_made (word_told note) key.dest (job_told note) sent),
      sum_by-map (job_weight v) f jobs,
      sum-held move jobs,
      sum_by-equal (job_weight (inside move)) (job_weight move) jobs (λ job. inside_moved v key (word_told note) waiting sent live job.0.number job.1),
    )

-- the pending events besides the one that is done keep their places
rest_stays : (p : NetworkParts) (t : Terms) (s : State) (told : Key × Note) (after : State) (n : IsNetworkStep p t s told after) (v : ℕ × Place → ℕ) (word waiting : ℕ) (sent : List Event)
    → sum_by (event_weight p (moved_weight v n.step.event.key word waiting sent)) n.step.rest ≡ sum_by (event_weight p v) n.step.rest
unfolding Ascends
rest_stays p t s told after n v word waiting sent =
    let key : Key = n.step.event.key in
    let A : List Event → Type 0 = IsAscending in
    let up : IsAscending (n.step.event ∷ n.step.rest) = subst A n.step.pending n.lawful.ordered in
    sum_by-same (event_weight p (moved_weight v key word waiting sent)) (event_weight p v) n.step.rest
    (Each-map (λ (x : Event). key_lt key x.key ≡ true) (λ (x : Event). event_weight p (moved_weight v key word waiting sent) x ≡ event_weight p v x) n.step.rest
    (λ x later. other_stays p v key word waiting sent x (λ same.
    let K : Key → Type 0 = λ k. key_lt key k ≡ true in
    let twice : key_lt key key ≡ true = subst K same later in
    let never : key_lt key key ≡ false = key_lt-irrefl key in cc))
    up.0)

-- the lines of the other objects stay
lines_change : (p : NetworkParts) (t : Terms) (s : State) (told : Key × Note) (after : State) (n : IsNetworkStep p t s told after) (v : ℕ × Place → ℕ) (word waiting : ℕ) (sent : List Event)
    → (let d : ℕ = n.step.event.key.dest in
    let move : ℕ × Place → ℕ = moved_weight v n.step.event.key word waiting sent in
    sum_by (λ i. line_weight move i (waiting_at s i)) (range_with_len 0 (length p.objects)) + line_weight v d (waiting_at after d)
    ≡ sum_by (λ i. line_weight v i (waiting_at after i)) (range_with_len 0 (length p.objects)) + line_weight move d (waiting_at s d))
lines_change p t s told after n v word waiting sent =
    let key : Key = n.step.event.key in
    let move : ℕ × Place → ℕ = moved_weight v key word waiting sent in
    range-change (λ i. line_weight move i (waiting_at s i)) (λ i. line_weight v i (waiting_at after i)) 0 (length p.objects) key.dest (omega arith) (omega (arith, n.exists))
    (λ i apart. line_stays v key word waiting sent i 0 (waiting_at s i) (and_right (word == 6) (i == key.dest) (ne_eqb i key.dest apart))
    ∙ ap (line_weight v i) (sym (ap (λ (c : CellData). line_of c 0) (cells_elsewhere p t s told after n i apart))))

pub agree_on : (p : NetworkParts) (t : Terms) (s : State) (told : Key × Note) (after : State) (jobs : List (Job × Place)) → IsNetwork p → IsNetworkStep p t s told after
    → Agree p s jobs → Agree p after (places_after p s jobs (does told after))
agree_on p t s told after jobs fine n agree w =
    let e : Event = n.step.event in
    let d : ℕ = e.key.dest in
    let x : Effect = n.step.effect in
    let cells : CellData = cells_at s d in
    let serial : ℕ = (state_at s.objects d).sent in
    let sent : List Event = (first_firing s e x).events in
    let word : ℕ = word_told x.note in
    let waiting : ℕ = length (waiting_at s d) in
    let v : ℕ × Place → ℕ = inside w in
    let live : Live v = inside-live w in
    let move : ℕ × Place → ℕ = moved_weight v e.key word waiting sent in
    let now : sum_by w (held (places_after p s jobs (does told after))) ≡ sum_by w (held (moved_jobs e.key x.note waiting sent jobs)) =
    ap (λ (jobs : List (Job × Place)). sum_by w (held jobs)) (places_after-step p t s told after n jobs) in
    let moved : sum_by w (held (moved_jobs e.key x.note waiting sent jobs)) ≡ sum_by move (held jobs) + sum_by (job_weight v) (newly_made word d (job_told x.note) sent) =
    sum-held w (moved_jobs e.key x.note waiting sent jobs) ∙ moved_sum v e.key x.note waiting sent jobs live in
    let before : sum_by move (held jobs) ≡ sum_by (event_weight p move) s.pending + sum_by (λ i. line_weight move i (waiting_at s i)) (range_with_len 0 (length p.objects)) =
    agree move ∙ sum-in_the_system p s move in
    let balance = balances p v e cells (object_at p.objects d).kind x serial live refl (object_fine p fine d n.exists).kind n.cells n.does_so in
    let line : line_weight v d (waiting_at after d) ≡ line_weight v d (line_of (cells_after_all x.changes cells) 0) =
    ap (λ (c : CellData). line_weight v d (line_of c 0)) (cells_here p t s told after n) in
    let then : sum_by v (in_the_system p after) ≡ sum_by (event_weight p v) after.pending + sum_by (λ i. line_weight v i (waiting_at after i)) (range_with_len 0 (length p.objects)) =
    sum-in_the_system p after v in
    omega (
      arith,
      balance,
      sum_before p t s told after n (event_weight p move),
      sum_after p t s told after n (event_weight p v),
      rest_stays p t s told after n v word waiting sent,
      lines_change p t s told after n v word waiting sent,
      sum-inside p after w,
    )

-- at the start

-- the numbers of sources are sources'
pub source_number : (p : NetworkParts) (k : ℕ) → k < length (source_numbers p.objects) → is_source (object_at p.objects (slice_index (source_numbers p.objects) k)).kind ≡ true
unfolding sources_below
source_number p k within = filter_passes (λ number. is_source (object_at p.objects number).kind) (range_with_len 0 (length p.objects)) k 0 within

source_weight : (p : NetworkParts) (w : ℕ × Place → ℕ) (k : ℕ) → k < length (source_numbers p.objects) → event_weight p w (start_event (plain_meaning p) k) ≡ 0
source_weight p w k early =
    start_cases (λ e. event_weight p w e ≡ 0) p k
    (λ within. no_job p w (event_of_start k (source_start p (slice_index (source_numbers p.objects) k))) (source_number p k within))
    (λ past. absurd (omega arith))

listed_weight : (p : NetworkParts) (w : ℕ × Place → ℕ) (i : ℕ) → IsNetwork p → i < length p.jobs
    → (let k : ℕ = length (source_numbers p.objects) + i in
    event_weight p w (start_event (plain_meaning p) k) ≡ w (i + 1, at_event (start_event (plain_meaning p) k).key))
listed_weight p w i fine within =
    let S : ℕ = length (source_numbers p.objects) in
    start_cases (λ e. event_weight p w e ≡ w (i + 1, at_event e.key)) p (S + i)
    (λ early. absurd (omega arith))
    (λ past.
    let back : S + i - S ≡ i = omega arith in
    let e : Event = event_of_start (S + i) (job_start p (S + i - S)) in
    let job = fine.jobs (S + i - S) (record { time = 0; at = 0; rank = 0 }) (omega arith) in
    has_job p w e job.at.takes ∙ ap (λ (j : ℕ). w (j + 1, at_event e.key)) back)

-- a sum over all numbers from a on, of which the first weigh nothing
pub skip_first : (F : ℕ → ℕ) (S J a n : ℕ) → a + n ≡ S → ((k : ℕ) → k < S → F k ≡ 0) → sum_by F (range_with_len a (n + J)) ≡ sum_by F (range_with_len S J)
skip_first F S J a zero all none =
    let here : a ≡ S = omega arith in
    let no : 0 + J ≡ J = omega arith in
    ap (λ j. sum_by F (range_with_len a j)) no ∙ ap (λ b. sum_by F (range_with_len b J)) here
skip_first F S J a (suc n) all none =
    let more : suc n + J ≡ suc (n + J) = omega arith in
    let first : F a ≡ 0 = none a (omega arith) in
    let rest = skip_first F S J (a + 1) n (omega arith) none in
    omega (arith, ap (λ j. sum_by F (range_with_len a j)) more, sum_by-cons F a (range_with_len (a + 1) (n + J)))

pub shifted : (F G : ℕ → ℕ) (S J a n : ℕ) → a + n ≤ J → ((i : ℕ) → i < J → F (S + i) ≡ G i) → sum_by F (range_with_len (S + a) n) ≡ sum_by G (range_with_len a n)
shifted F G S J a zero room same = refl
shifted F G S J a (suc n) room same =
    let here : F (S + a) ≡ G a = same a (omega arith) in
    let next : S + a + 1 ≡ S + (a + 1) = omega arith in
    omega (
      arith,
      sum_by-cons F (S + a) (range_with_len (S + a + 1) n),
      sum_by-cons G a (range_with_len (a + 1) n),
      ap (λ b. sum_by F (range_with_len b n)) next,
      shifted F G S J (a + 1) n (omega arith) same,
    )

-- nobody waits
pub first_line : (kind : KindOver ℕ) → line_of (first_cells_of kind) 0 ≡ []
first_line (Source source) = refl
first_line (Station station) = refl
first_line other = refl

no_lines : (p : NetworkParts) (w : ℕ × Place → ℕ) (a n : ℕ) → a + n ≤ length p.objects
    → sum_by (λ i. line_weight w i (waiting_at (initial_state (plain_meaning p)) i)) (range_with_len a n) ≡ 0
no_lines p w a zero room = refl
no_lines p w a (suc n) room =
    let f : ℕ → ℕ = λ i. line_weight w i (waiting_at (initial_state (plain_meaning p)) i) in
    let none : f a ≡ 0 = ap (line_weight w a) (ap (λ (c : CellData). line_of c 0) (cells_at_start p a (omega arith)) ∙ first_line (object_at p.objects a).kind) in
    omega (arith, sum_by-cons f a (range_with_len (a + 1) n), no_lines p w (a + 1) n (omega arith))

pub agree_first : (p : NetworkParts) → IsNetwork p → Agree p (initial_state (plain_meaning p)) (first_places p)
unfolding plain_meaning network_meaning
agree_first p fine w =
    let m = plain_meaning p in
    let S : ℕ = length (source_numbers p.objects) in
    let J : ℕ = length p.jobs in
    let F : ℕ → ℕ = λ k. event_weight p w (start_event m k) in
    let G : ℕ → ℕ = λ i. w (i + 1, at_event (start_event m (S + i)).key) in
    let f : ℕ → Job × Place = λ i. (record { origin = listed; number = i + 1 }, at_event (start_event m (S + i)).key) in
    let jobs : sum_by w (held (first_places p)) ≡ sum_by G (range_with_len 0 J) = sum-held w (first_places p) ∙ sum_by-map (job_weight (inside w)) f (range_with_len 0 J) in
    let none : S + 0 ≡ S = omega arith in
    let shift : sum_by F (range_with_len (S + 0) J) ≡ sum_by G (range_with_len 0 J) = shifted F G S J 0 J (omega arith) (λ i within. listed_weight p w i fine within) in
    let events : sum_by (event_weight p w) (initial_state m).pending ≡ sum_by F (range_with_len 0 (S + J)) =
    sum_at_start (event_weight p w) m ∙ sum_by-map (event_weight p w) (start_event m) (range_with_len 0 (S + J)) in
    omega (
      arith,
      sum-in_the_system p (initial_state m) w,
      no_lines p w 0 (length p.objects) (omega arith),
      skip_first F S J 0 S (omega arith) (λ k early. source_weight p w k early),
      ap (λ b. sum_by F (range_with_len b J)) none,
    )
