-- Each job keeps its birth, and is as old as it is told when it leaves.
use Rattle.std.proofs.Common.{◌≡◌, ◌≢◌, ◌⊎◌, ℕ, zero, suc, ◌+◌, ◌-◌, ◌<◌, ◌≤◌, Bool, true, false, cond, not, List, [], ◌∷◌, ◌++◌, length, map, inl, inr, refl, sym, ap, ◌∙◌, subst, arith, eqb, eqb-true, eq-eqb, append-nil, append_assoc}
use Rattle.std.specs.Prelude.{All, Contains, Option, Some, None, ◌==◌, ◌&&◌, if◌then◌else◌, slice_index, slice_index_or, sum_by}
use Rattle.std.specs.List.{AllByRecursion as Each, range_with_len}
use Rattle.std.proofs.lemmas.Bool.Decides.{nat_tests}
use Rattle.std.proofs.lemmas.List.Sums.{sum_by-cons}
use Rattle.std.proofs.lemmas.List.Elements.{All-nil, All-push, All-from_recursion}
use Rattle.event_key.specs.declared.key.Key.{Key}
use Rattle.event_key.specs.Keys.{key_lt, same_key}
use Rattle.event_key.specs.Stamps.{time_part}
use Rattle.event_key.proofs.Order.{key_lt-irrefl, same_key-is, same_key-itself}
use Rattle.delta_exchange.specs.Changes.{CellData, line_of, cells_after_all}
use Rattle.key_order.specs.Ascending.{IsAscending, Ascends}
use Rattle.key_order.proofs.MemberLemmas.{first-or-later, each-contains}
use Rattle.model_core.specs.declared.effect.Effect.{Effect}
use Rattle.model_core.specs.declared.effect.Outcome.{Outcome}
use Rattle.model_core.specs.declared.effect.Outcome.TheVariants.{Goes, Fails}
use Rattle.model_core.specs.declared.event.Event.{Event}
use Rattle.model_core.specs.declared.note.Note.{Note}
use Rattle.model_core.specs.declared.note.Part.{Part}
use Rattle.sim_spec.specs.declared.terms.Terms.{Terms}
use Rattle.sim_spec.specs.State.{State, start_event, object_at as state_at}
use Rattle.sim_spec.specs.Run.{Next, stops, does, next}
use Rattle.queue_models.specs.declared.kind.KindOver.{KindOver}
use Rattle.queue_models.specs.declared.kind.KindOver.TheVariants.{Source, Station, Sink}
use Rattle.queue_models.specs.declared.sink.Sink.{Sink as SinkOver}
use Rattle.queue_models.specs.declared.site.Site.{Site}
use Rattle.queue_models.specs.Kinds.{effect_at, is_source}
use Rattle.queue_models.specs.Meaning.{plain_meaning, network_meaning, site_of, job_start}
use Rattle.queue_models.specs.ModelLaws.{object_fine}
use Rattle.queue_models.specs.Objects.{Item, NetworkParts, object_at, source_numbers}
use Rattle.queue_models.specs.Parts.{IsNetwork}
use Rattle.queue_models.specs.declared.source.Source.{Source as SourceOver}
use Rattle.queue_models.specs.declared.station.Station.{Station as StationOver}
use Rattle.queue_models.specs.Sources.{idle_effect, last_effect, make_effect}
use Rattle.queue_models.specs.Stations.{take_effect, wait_effect, lose_effect, serve_effect, free_effect}
use Rattle.sim_spec.proofs.FiringLemmas.{goes-effect}
use Rattle.queue_models.specs.Sinks.{is_late, sink_effect}
use Rattle.queue_models.specs.Telling.{note_told, as_told}
use Rattle.run_laws.specs.Reached.{after_events, gathered, record_of, first_records}
use Rattle.run_laws.specs.Sent.{sent_next}
use Rattle.run_laws.proofs.CausalityLaw.{sent-in, rest-in, initial-in}
use Rattle.run_laws.proofs.Induction.{after_events-does, after_events-stops, gathered-more, each_number}
use Rattle.run_laws.proofs.Steps.{IsStep, is_step, first_firing, sent_next-step}
use Rattle.subject_laws.specs.Births.{newly_born, born_next, births, births_waiting_at, IsKeptAt, AreKept}
use Rattle.subject_laws.specs.BirthLaws.{age_told, IsOfAge, NoneIsOlder, EachJobKeepsItsBirth, AgesAreTold, NoneLeavesLate}
use Rattle.subject_laws.specs.Jobs.{Job, listed, made_by, is_in_system, is_of_job, newly_made, first_places, places_after, whereabouts}
use Rattle.subject_laws.specs.LossLaws.{IsSinkAt}
use Rattle.subject_laws.specs.Places.{Place, at_event, in_line, has_left, was_lost, own_place, moved_up, word_told, job_told, place_after}
use Rattle.subject_laws.specs.Stations.{cells_at, waiting_at}
use Rattle.subject_laws.proofs.QueueLemmas.Cases.{EventDoes, SourceDoes, idles, makes_last, makes, StationDoes, takes, waits, loses, serves, frees, PlainDoes, hands_on, leaves, is_moving}
use Rattle.subject_laws.proofs.QueueLemmas.NetworkStarts.{start_cases}
use Rattle.subject_laws.proofs.QueueLemmas.NetworkSteps.{IsNetworkStep, network_step, cells_here, cells_elsewhere, sum_before}
use Rattle.subject_laws.proofs.QueueLemmas.PlainRuns.{same_after}
use Rattle.subject_laws.proofs.JobLemmas.JobsLaw.{whereabouts-next, places_agree}
use Rattle.subject_laws.proofs.JobLemmas.Keeping.{IsPut, Keeps, keeps}
use Rattle.subject_laws.proofs.JobLemmas.Moving.{has_job}
use Rattle.subject_laws.proofs.JobLemmas.Weights.{event_weight, sum-held, sum-in_the_system}
use Rattle.subject_laws.proofs.JobLemmas.PlacesLaw.{moved_jobs, places_after-step}

-- the pending event of the next event's key is the next event
it_is_next : (p : NetworkParts) (t : Terms) (s : State) (told : Key × Note) (after : State) (n : IsNetworkStep p t s told after) (x : Event) → Contains s.pending x
    → (n.step.event ≡ x) ⊎ (Contains n.step.rest x × (key_lt n.step.event.key x.key ≡ true))
unfolding Ascends
it_is_next p t s told after n x is_in =
    let C : List Event → Type 0 = λ es. Contains es x in
    let A : List Event → Type 0 = IsAscending in
    let up : IsAscending (n.step.event ∷ n.step.rest) = subst A n.step.pending n.lawful.ordered in
    elim (first-or-later x n.step.event n.step.rest (subst C n.step.pending is_in)) [
      | inl same ↦ inl same
      | inr later ↦ inr (later, each-contains (λ (x : Event). key_lt n.step.event.key x.key ≡ true) x n.step.rest up.0 later)
    ]

-- no two pending events have one key
it_is_that : (p : NetworkParts) (t : Terms) (s : State) (told : Key × Note) (after : State) (n : IsNetworkStep p t s told after) (x : Event) → Contains s.pending x
    → x.key ≡ n.step.event.key → n.step.event ≡ x
it_is_that p t s told after n x is_in same =
    elim (it_is_next p t s told after n x is_in) [
      | inl it ↦ it
      | inr later ↦ absurd {A = n.step.event ≡ x} (
          let K : Key → Type 0 = λ k. key_lt n.step.event.key k ≡ true in
          let twice : key_lt n.step.event.key n.step.event.key ≡ true = subst K same later.1 in
          let never : key_lt n.step.event.key n.step.event.key ≡ false = key_lt-irrefl n.step.event.key in
          cc
          )
    ]

-- what is put at an event that is sent, or in the line of the object, is kept in the state after it
put_is_kept : (p : NetworkParts) (t : Terms) (s : State) (told : Key × Note) (after : State) (n : IsNetworkStep p t s told after) (birth : ℕ) (place : Place)
    → IsPut p n.step.event.key.dest (first_firing s n.step.event n.step.effect).events (line_of (cells_after_all n.step.effect.changes (cells_at s n.step.event.key.dest)) 1) birth place
    → IsKeptAt p after birth place
put_is_kept p t s told after n birth (at_event k) put =
    let C : List Event → Type 0 = λ es. Contains es put.0 in
    (put.0, sent-in (plain_meaning p) t s told after put.0 n.step (subst C (sym (sent_next-step (plain_meaning p) t s told after n.step)) put.1), put.2, put.3, put.4)
put_is_kept p t s told after n birth (in_line i k) put =
    let d : ℕ = n.step.event.key.dest in
    let line : births_waiting_at after d ≡ line_of (cells_after_all n.step.effect.changes (cells_at s d)) 1 = ap (λ (c : CellData). line_of c 1) (cells_here p t s told after n) in
    let L : List ℕ → Type 0 = λ line. (k < length line) × (slice_index line k ≡ birth) in
    let I : ℕ → Type 0 = λ i. (k < length (births_waiting_at after i)) × (slice_index (births_waiting_at after i) k ≡ birth) in
    subst I (sym put.0) (subst L (sym line) (put.1, put.2))
put_is_kept p t s told after n birth has_left put = tt
put_is_kept p t s told after n birth was_lost put = tt

-- what the event keeps of births where it happens
event_keeps : (p : NetworkParts) (t : Terms) (s : State) (told : Key × Note) (after : State) → IsNetwork p → (n : IsNetworkStep p t s told after)
    → Keeps p n.step.event (cells_at s n.step.event.key.dest) n.step.effect (state_at s.objects n.step.event.key.dest).sent
event_keeps p t s told after fine n =
    keeps p n.step.event (cells_at s n.step.event.key.dest) (object_at p.objects n.step.event.key.dest).kind n.step.effect (state_at s.objects n.step.event.key.dest).sent refl
    (object_fine p fine n.step.event.key.dest n.exists).kind n.cells n.does_so

-- one job's birth, wherever the event moves the job
kept_on : (p : NetworkParts) (t : Terms) (s : State) (told : Key × Note) (after : State) → IsNetwork p → (n : IsNetworkStep p t s told after) (birth : ℕ) (place : Place) → IsKeptAt p s birth place
    → IsKeptAt p after birth (place_after n.step.event.key (word_told n.step.effect.note) (length (waiting_at s n.step.event.key.dest)) (first_firing s n.step.event n.step.effect).events place)
kept_on p t s told after fine n birth (at_event k) kept = by (same_key k n.step.event.key) refl
  where
    e : Event
    e = n.step.event

    d : ℕ
    d = n.step.event.key.dest

    sent : List Event
    sent = (first_firing s n.step.event n.step.effect).events

    no_source : is_of_job p n.step.event ≡ true → is_source (object_at p.objects n.step.event.key.dest).kind ≡ false
    no_source of_job = not_true (is_source (object_at p.objects n.step.event.key.dest).kind) of_job
      where
        not_true : (b : Bool) → not b ≡ true → b ≡ false
        not_true true is = cc
        not_true false is = refl

    own : n.step.event ≡ kept.0
        → IsKeptAt p after birth (own_place (word_told n.step.effect.note) n.step.event.key.dest (length (waiting_at s n.step.event.key.dest)) (first_firing s n.step.event n.step.effect).events)
    own same =
        let of_job : is_of_job p e ≡ true = ap (is_of_job p) same ∙ kept.2 in
        let born : e.b ≡ birth = ap (λ (x : Event). x.b) same ∙ kept.4 in
        let B : ℕ → Type 0 = λ b. IsKeptAt p after b (own_place (word_told n.step.effect.note) d (length (waiting_at s d)) sent) in
        subst B born (put_is_kept p t s told after n e.b _ ((event_keeps p t s told after fine n).own (no_source of_job)))

    by : (here : Bool) → same_key k n.step.event.key ≡ here
        → IsKeptAt p after birth
        (if here then own_place (word_told n.step.effect.note) n.step.event.key.dest (length (waiting_at s n.step.event.key.dest)) (first_firing s n.step.event n.step.effect).events else at_event k)
    by true here =
        let same : k ≡ e.key = same_key-is k e.key here in
        own (it_is_that p t s told after n kept.0 kept.1 (kept.3 ∙ same))
    by false apart =
        elim (it_is_next p t s told after n kept.0 kept.1) [
          | inl it ↦ absurd (
              let same : k ≡ e.key = sym (ap (λ (x : Event). x.key) it ∙ kept.3) in
              let K : Key → Type 0 = λ j. same_key j e.key ≡ true in
              let yes : same_key k e.key ≡ true = subst K (sym same) (same_key-itself e.key) in (cc))
          | inr later ↦ (kept.0, rest-in (plain_meaning p) t s told after kept.0 n.step later.0, kept.2, kept.3, kept.4)
        ]
kept_on p t s told after fine n birth (in_line i k) kept = by (eqb i n.step.event.key.dest) refl
  where
    word : ℕ
    word = word_told n.step.effect.note

    sent : List Event
    sent = (first_firing s n.step.event n.step.effect).events

    at_dest : (k < length (births_waiting_at s n.step.event.key.dest)) × (slice_index (births_waiting_at s n.step.event.key.dest) k ≡ birth)
        → IsKeptAt p after birth (if word_told n.step.effect.note == 6 && n.step.event.key.dest == n.step.event.key.dest then moved_up (first_firing s n.step.event n.step.effect).events n.step.event.key.dest k else in_line n.step.event.key.dest k)
    at_dest kept =
        let d : ℕ = n.step.event.key.dest in
        let B : ℕ → Type 0 = λ b. IsKeptAt p after b (if word == 6 then moved_up sent d k else in_line d k) in
        let T : Bool → Type 0 = λ b. IsKeptAt p after birth (if b then moved_up sent d k else in_line d k) in
        let both : (word == 6) ≡ (word == 6 && d == d) = sym (ap (λ b. word == 6 && b) (eq-eqb d d refl) ∙ and_true (word == 6)) in
        subst T both (subst B kept.1 (put_is_kept p t s told after n _ _ ((event_keeps p t s told after fine n).others k kept.0)))
      where
        and_true : (b : Bool) → (b && true) ≡ b
        and_true true = refl
        and_true false = refl

    by : (here : Bool) → eqb i n.step.event.key.dest ≡ here
        → IsKeptAt p after birth (if word_told n.step.effect.note == 6 && i == n.step.event.key.dest then moved_up (first_firing s n.step.event n.step.effect).events i k else in_line i k)
    by true here =
        let same : i ≡ n.step.event.key.dest = eqb-true i n.step.event.key.dest here in
        let P : ℕ → Type 0 = λ j. (k < length (births_waiting_at s j)) × (slice_index (births_waiting_at s j) k ≡ birth)
        → IsKeptAt p after birth (if word == 6 && j == n.step.event.key.dest then moved_up sent j k else in_line j k) in
        subst P (sym same) at_dest kept
    by false apart_is =
        let apart : i ≢ n.step.event.key.dest = λ same. let yes = eq-eqb i n.step.event.key.dest same in cc in
        let T : Bool → Type 0 = λ b. IsKeptAt p after birth (if b then moved_up sent i k else in_line i k) in
        let none : false ≡ (word == 6 && i == n.step.event.key.dest) = sym (ap (λ b. word == 6 && b) apart_is ∙ and_false (word == 6)) in
        let C : CellData → Type 0 = λ c. (k < length (line_of c 1)) × (slice_index (line_of c 1) k ≡ birth) in
        subst T none (subst C (sym (cells_elsewhere p t s told after n i apart)) kept)
      where
        and_false : (b : Bool) → (b && false) ≡ false
        and_false true = refl
        and_false false = refl
kept_on p t s told after fine n birth has_left kept = tt
kept_on p t s told after fine n birth was_lost kept = tt

-- of each job
all_moved : (p : NetworkParts) (s after : State) (to : Place → Place) → ((birth : ℕ) (place : Place) → IsKeptAt p s birth place → IsKeptAt p after birth (to place))
    → (jobs : List (Job × Place)) (born : List ℕ) → AreKept p s jobs born → AreKept p after (map (λ (job : Job × Place). (job.0, to job.1)) jobs) born
all_moved p s after to moves [] [] kept = tt
all_moved p s after to moves (job ∷ jobs) (birth ∷ born) kept = (moves birth job.1 kept.0, all_moved p s after to moves jobs born kept.1)
all_moved p s after to moves [] (birth ∷ born) kept = absurd kept
all_moved p s after to moves (job ∷ jobs) [] kept = absurd kept

together : (p : NetworkParts) (s : State) (jobs more : List (Job × Place)) (born new : List ℕ) → AreKept p s jobs born → AreKept p s more new → AreKept p s (jobs ++ more) (born ++ new)
together p s [] more [] new kept also = also
together p s (job ∷ jobs) more (birth ∷ born) new kept also = (kept.0, together p s jobs more born new kept.1 also)
together p s [] more (birth ∷ born) new kept also = absurd kept
together p s (job ∷ jobs) more [] new kept also = absurd kept

-- and of the one that is made
new_kept : (p : NetworkParts) (t : Terms) (s : State) (told : Key × Note) (after : State) → IsNetwork p → (n : IsNetworkStep p t s told after) (number : ℕ)
    → (let sent = (first_firing s n.step.event n.step.effect).events in
    AreKept p after (newly_made (word_told n.step.effect.note) n.step.event.key.dest number sent) (newly_born (word_told n.step.effect.note) (time_part n.step.event.key.stamp) sent))
new_kept p t s told after fine n number = by (first_firing s n.step.event n.step.effect).events refl
  where
    by : (sent : List Event) → (first_firing s n.step.event n.step.effect).events ≡ sent
        → AreKept p after (newly_made (word_told n.step.effect.note) n.step.event.key.dest number sent) (newly_born (word_told n.step.effect.note) (time_part n.step.event.key.stamp) sent)
    by [] is = tt
    by (y ∷ ys) is = makes_it (eqb (word_told n.step.effect.note) 2) refl
      where
        makes_it : (two : Bool) → eqb (word_told n.step.effect.note) 2 ≡ two
            → AreKept p after (if two then (record { origin = made_by n.step.event.key.dest; number = number }, at_event y.key) ∷ [] else []) (if two then time_part n.step.event.key.stamp ∷ [] else [])
        makes_it false other = tt
        makes_it true two =
            let made = (event_keeps p t s told after fine n).made y ys (eqb-true (word_told n.step.effect.note) 2 two) is in
            let C : List Event → Type 0 = λ es. Contains es y in
            let there : Contains (first_firing s n.step.event n.step.effect).events y = subst C (sym is) (0, (omega arith), refl) in
            ((y, sent-in (plain_meaning p) t s told after y n.step (subst C (sym (sent_next-step (plain_meaning p) t s told after n.step)) there), made.0, refl, made.1), tt)

-- the births after one event more
births-next : (p : NetworkParts) (t : Terms) (n : ℕ) (x : Next) → next (plain_meaning p) t (after_events n (plain_meaning p) t) ≡ x
    → births p t (suc n) ≡ births p t n ++ born_next p (after_events n (plain_meaning p) t) x
births-next p t n x is_next =
    let first : List ℕ = map (λ i. (job_start p i).time) (range_with_len 0 (length p.jobs)) in
    ap (λ (more : List ℕ). first ++ more) (gathered-more (born_next p) (plain_meaning p) t n x is_next)
    ∙ sym (append_assoc first (gathered (born_next p) n (plain_meaning p) t) (born_next p (after_events n (plain_meaning p) t) x))

born-step : (p : NetworkParts) (t : Terms) (s : State) (told : Key × Note) (after : State) (n : IsNetworkStep p t s told after)
    → born_next p s (does told after) ≡ newly_born (word_told n.step.effect.note) (time_part n.step.event.key.stamp) (first_firing s n.step.event n.step.effect).events
born-step p t s told after n =
    ap (λ (r : Key × Note). newly_born (word_told r.1) (time_part r.0.stamp) (sent_next (plain_meaning p) s)) n.step.tells
    ∙ ap (newly_born (word_told n.step.effect.note) (time_part n.step.event.key.stamp)) (sent_next-step (plain_meaning p) t s told after n.step)

births_on : (p : NetworkParts) (t : Terms) (s : State) (told : Key × Note) (after : State) (jobs : List (Job × Place)) (born : List ℕ) → IsNetwork p → IsNetworkStep p t s told after
    → AreKept p s jobs born → AreKept p after (places_after p s jobs (does told after)) (born ++ born_next p s (does told after))
births_on p t s told after jobs born fine n before =
    let sent : List Event = (first_firing s n.step.event n.step.effect).events in
    let note : Note = n.step.effect.note in
    let waiting : ℕ = length (waiting_at s n.step.event.key.dest) in
    let J : List (Job × Place) → Type 0 = λ jobs. AreKept p after jobs (born ++ born_next p s (does told after)) in
    let B : List ℕ → Type 0 = λ new. AreKept p after (moved_jobs n.step.event.key note waiting sent jobs) (born ++ new) in
    subst J (sym (places_after-step p t s told after n jobs))
    (subst B (sym (born-step p t s told after n))
    (together p after (map (λ (job : Job × Place). (job.0, place_after n.step.event.key (word_told note) waiting sent job.1)) jobs)
    (newly_made (word_told note) n.step.event.key.dest (job_told note) sent) born (newly_born (word_told note) (time_part n.step.event.key.stamp) sent)
    (all_moved p s after (place_after n.step.event.key (word_told note) waiting sent) (kept_on p t s told after fine n) jobs born before)
    (new_kept p t s told after fine n (job_told note))))

-- at the start each job of the list stands at its arrival
listed_born : (p : NetworkParts) (t : Terms) (i : ℕ) → IsNetwork p → i < length p.jobs
    → IsKeptAt p (after_events 0 (plain_meaning p) t) (job_start p i).time (at_event (start_event (plain_meaning p) (length (source_numbers p.objects) + i)).key)
unfolding plain_meaning network_meaning
listed_born p t i fine within =
    let S : ℕ = length (source_numbers p.objects) in
    let start : Event = start_event (plain_meaning p) (S + i) in
    let P : Event → Type 0 = λ e. (is_of_job p e ≡ true) × (e.b ≡ (job_start p i).time) in
    let is : P start =
    start_cases P p (S + i)
    (λ early. absurd (omega arith))
    (λ past.
    let back : S + i - S ≡ i = omega arith in
    let job = fine.jobs (S + i - S) (record { time = 0; at = 0; rank = 0 }) (omega arith) in
    (ap not job.at.takes, ap (λ (j : ℕ). (job_start p j).time) back)) in
    (start, initial-in (plain_meaning p) t start (S + i, (omega arith), refl), is.0, refl, is.1)

first_kept : (p : NetworkParts) (t : Terms) (a n : ℕ) → IsNetwork p → a + n ≤ length p.jobs
    → AreKept p (after_events 0 (plain_meaning p) t)
    (map (λ i. (record { origin = listed; number = i + 1 }, at_event (start_event (plain_meaning p) (length (source_numbers p.objects) + i)).key)) (range_with_len a n))
    (map (λ i. (job_start p i).time) (range_with_len a n))
first_kept p t a zero fine room = tt
first_kept p t a (suc n) fine room = (listed_born p t a fine (omega arith), first_kept p t (a + 1) n fine (omega arith))

-- the law over the plain meaning
plain_births : (p : NetworkParts) (t : Terms) → IsNetwork p → (n : ℕ) → AreKept p (after_events n (plain_meaning p) t) (whereabouts p t n) (births p t n)
unfolding whereabouts gathered
plain_births p t fine =
    let m = plain_meaning p in
    each_number m t (λ n. AreKept p (after_events n m t) (whereabouts p t n) (births p t n))
    (let first : List ℕ = map (λ i. (job_start p i).time) (range_with_len 0 (length p.jobs)) in
    let B : List ℕ → Type 0 = λ born. AreKept p (after_events 0 m t) (first_places p) born in
    subst B (sym (append-nil first)) (first_kept p t 0 (length p.jobs) fine (omega arith)))
    (λ n stop is_next before.
    let W : List (Job × Place) → Type 0 = λ jobs. AreKept p (after_events (suc n) m t) jobs (births p t (suc n)) in
    let B : List ℕ → Type 0 = λ born. AreKept p (after_events (suc n) m t) (whereabouts p t n) born in
    let S : State → Type 0 = λ s. AreKept p s (whereabouts p t n) (births p t n) in
    subst W (sym (whereabouts-next p t n (stops stop) is_next))
    (subst B (sym (births-next p t n (stops stop) is_next ∙ append-nil (births p t n))) (subst S (sym (after_events-stops m t n stop is_next)) before)))
    (λ n told after is_next before.
    let s : State = after_events n m t in
    let W : List (Job × Place) → Type 0 = λ jobs. AreKept p (after_events (suc n) m t) jobs (births p t (suc n)) in
    let B : List ℕ → Type 0 = λ born. AreKept p (after_events (suc n) m t) (places_after p (after_events n m t) (whereabouts p t n) (does told after)) born in
    let S : State → Type 0 = λ s. AreKept p s (places_after p (after_events n m t) (whereabouts p t n) (does told after)) (births p t n ++ born_next p (after_events n m t) (does told after)) in
    subst W (sym (whereabouts-next p t n (does told after) is_next))
    (subst B (sym (births-next p t n (does told after) is_next))
    (subst S (sym (after_events-does m t n told after is_next))
    (births_on p t s told after (whereabouts p t n) (births p t n) fine (network_step p t s told after fine (n, refl) is_next) before))))

pub births_law : EachJobKeepsItsBirth
births_law p t n fine =
    let S : State → Type 0 = λ s. AreKept p s (whereabouts p t n) (births p t n) in
    subst S (sym (same_after p t n)) (plain_births p t fine n)

-- the birth of job number k
kept_at : (p : NetworkParts) (s : State) (jobs : List (Job × Place)) (born : List ℕ) (k : ℕ) (none : Job × Place) → AreKept p s jobs born → k < length jobs
    → IsKeptAt p s (slice_index born k) (slice_index_or jobs k none).1
kept_at p s [] born k none kept within = absurd (omega arith)
kept_at p s (job ∷ jobs) [] k none kept within = absurd kept
kept_at p s (job ∷ jobs) (birth ∷ born) zero none kept within = kept.0
kept_at p s (job ∷ jobs) (birth ∷ born) (suc k) none kept within = kept_at p s jobs born k none kept.1 (omega arith)

-- only a sink tells `leave`, and then the age of its job
source_stays : (site : Site) (cells : CellData) (e : Event) (source : SourceOver ℕ) (x : Effect) → SourceDoes site cells e source x → word_told x.note ≡ 9 → ⊥
unfolding idle_effect last_effect make_effect
source_stays site cells e source x (idles none) word = let w : ◌≡◌ {A = ℕ} 2 9 = word in omega arith
source_stays site cells e source x (makes_last one) word = let w : ◌≡◌ {A = ℕ} 2 9 = word in omega arith
source_stays site cells e source x (makes more) word = let w : ◌≡◌ {A = ℕ} 2 9 = word in omega arith

station_stays : (site : Site) (cells : CellData) (e : Event) (station : StationOver ℕ) (x : Effect) → StationDoes site cells e station x → word_told x.note ≡ 9 → ⊥
unfolding take_effect wait_effect lose_effect serve_effect free_effect
station_stays site cells e station x (takes other free) word = let w : ◌≡◌ {A = ℕ} 3 9 = word in omega arith
station_stays site cells e station x (waits other full room) word = let w : ◌≡◌ {A = ℕ} 4 9 = word in omega arith
station_stays site cells e station x (loses other full none) word = let w : ◌≡◌ {A = ℕ} 5 9 = word in omega arith
station_stays site cells e station x (serves done some) word = let w : ◌≡◌ {A = ℕ} 6 9 = word in omega arith
station_stays site cells e station x (frees done none) word = let w : ◌≡◌ {A = ℕ} 6 9 = word in omega arith

plain_age : (objects : List Item) (site : Site) (cells : CellData) (e : Event) (kind : KindOver ℕ) (x : Effect) → PlainDoes objects site cells e kind x → word_told x.note ≡ 9
    → age_told x.note ≡ time_part e.key.stamp - e.b
plain_age objects site cells e kind x (hands_on {word = told} there moving after draws) word =
    let M : ℕ → Type 0 = λ w. is_moving w ≡ true in
    let never : is_moving 9 ≡ true = subst M word moving in
    absurd (cc)
plain_age objects site cells e kind x (leaves none) word = refl

age_of : (objects : List Item) (site : Site) (cells : CellData) (e : Event) (kind : KindOver ℕ) (x : Effect) → EventDoes objects site cells e kind x → word_told x.note ≡ 9
    → age_told x.note ≡ time_part e.key.stamp - e.b
age_of objects site cells e (Source source) x does_so word = absurd (source_stays site cells e source x does_so word)
age_of objects site cells e (Station station) x does_so word = absurd (station_stays site cells e station x does_so word)
age_of objects site cells e other x does_so word = plain_age objects site cells e other x does_so word

-- no source tells `leave`
no_source_leaves : (objects : List Item) (site : Site) (cells : CellData) (e : Event) (kind : KindOver ℕ) (x : Effect) → EventDoes objects site cells e kind x → word_told x.note ≡ 9
    → is_source kind ≡ false
no_source_leaves objects site cells e (Source source) x does_so word = absurd (source_stays site cells e source x does_so word)
no_source_leaves objects site cells e other x does_so word = refl

-- a job that stands at the event of this key weighs 1
abbrev is_here : Key → Place → ℕ
is_here key (at_event k) = cond (same_key k key) 1 0
is_here key (in_line i k) = 0
is_here key has_left = 0
is_here key was_lost = 0

it_is_here : (key : Key) (place : Place) → 1 ≤ cond (is_in_system place) (is_here key place) 0 → place ≡ at_event key
it_is_here key (at_event k) some = by (same_key k key) refl some
  where
    by : (same : Bool) → same_key k key ≡ same → 1 ≤ cond same 1 0 → at_event k ≡ at_event key
    by true is some = ap (λ (j : Key). at_event j) (same_key-is k key is)
    by false is some = absurd (omega arith)
it_is_here key (in_line i k) some = absurd (omega arith)
it_is_here key has_left some = absurd (omega arith)
it_is_here key was_lost some = absurd (omega arith)

-- where jobs that stand at an event weigh something together there is one
record StandsAt (jobs : List (Job × Place)) (key : Key) : Type 0 where
  pub number : ℕ
  pub job : Job
  pub within : number < length jobs
  pub stands : (none : Job × Place) → slice_index_or jobs number none ≡ (job, at_event key)

found_at : (key : Key) (jobs : List (Job × Place)) → 1 ≤ sum_by (λ (job : Job × Place). cond (is_in_system job.1) (is_here key job.1) 0) jobs → StandsAt jobs key
found_at key [] some = absurd (omega arith)
found_at key (job ∷ jobs) some =
    by (cond (is_in_system job.1) (is_here key job.1) 0) refl (found_at key jobs)
    (sum_by-cons (λ (job : Job × Place). cond (is_in_system job.1) (is_here key job.1) 0) job jobs)
  where
    by : (first : ℕ) → cond (is_in_system job.1) (is_here key job.1) 0 ≡ first
        → (1 ≤ sum_by (λ (job : Job × Place). cond (is_in_system job.1) (is_here key job.1) 0) jobs → StandsAt jobs key)
        → sum_by (λ (job : Job × Place). cond (is_in_system job.1) (is_here key job.1) 0) (job ∷ jobs)
        ≡ cond (is_in_system job.1) (is_here key job.1) 0 + sum_by (λ (job : Job × Place). cond (is_in_system job.1) (is_here key job.1) 0) jobs
        → StandsAt (job ∷ jobs) key
    by (suc first) is more total =
        let here : job.1 ≡ at_event key = it_is_here key job.1 (omega arith) in
        record { number = 0; job = job.0; within = omega arith; stands = λ none. ap (λ (place : Place). (job.0, place)) here }
    by zero is more total =
        let rest : StandsAt jobs key = more (omega arith) in
        record { number = suc rest.number; job = rest.job; within = (let inside = rest.within in omega arith); stands = rest.stands }

-- some job stands at the next event, if that isn't a source's
someone : (p : NetworkParts) (t : Terms) (n : ℕ) (told : Key × Note) (after : State) → IsNetwork p → (step : IsNetworkStep p t (after_events n (plain_meaning p) t) told after)
    → is_source (object_at p.objects step.step.event.key.dest).kind ≡ false → StandsAt (whereabouts p t n) step.step.event.key
someone p t n told after fine step no_source =
    let s : State = after_events n (plain_meaning p) t in
    let e : Event = step.step.event in
    let w : ℕ × Place → ℕ = λ at. is_here e.key at.1 in
    let own : event_weight p w e ≡ 1 = has_job p w e no_source ∙ ap (λ b. cond b 1 0) (same_key-itself e.key) in
    found_at e.key (whereabouts p t n)
    (omega (
      arith,
      own,
      sum_before p t s told after step (event_weight p w),
      sum-in_the_system p s w,
      places_agree p t fine n w,
      sum-held w (whereabouts p t n),
    ))

born_as : (p : NetworkParts) (s : State) (birth : ℕ) (e : Event) (kept : IsKeptAt p s birth (at_event e.key)) → e ≡ kept.0 → e.b ≡ birth
born_as p s birth e kept own = ap (λ (x : Event). x.b) own ∙ kept.4

tells_so : (told : Key × Note) (note : Note) → told.1 ≡ note → word_told told.1 ≡ 9 → word_told note ≡ 9
tells_so told note tells word = sym (ap word_told tells) ∙ word

told_age : (told : Key × Note) (e : Event) (note : Note) (birth : ℕ) → told.1 ≡ note → age_told note ≡ time_part e.key.stamp - e.b → e.b ≡ birth
    → age_told told.1 ≡ time_part e.key.stamp - birth
told_age told e note birth tells age born = ap age_told tells ∙ age ∙ ap (λ b. time_part e.key.stamp - b) born

pub ages_law : AgesAreTold
ages_law p t n told after fine is_next word =
    let s : State = after_events n (plain_meaning p) t in
    let step : IsNetworkStep p t s told after = network_step p t s told after fine (n, refl) is_next in
    let e : Event = step.step.event in
    let kind : KindOver ℕ = (object_at p.objects e.key.dest).kind in
    let key : told.0 ≡ e.key = ap (λ (r : Key × Note). r.0) step.step.tells in
    let note : told.1 ≡ step.step.effect.note = ap (λ (r : Key × Note). r.1) step.step.tells in
    let leaves_so : word_told step.step.effect.note ≡ 9 = tells_so told step.step.effect.note note word in
    let one : StandsAt (whereabouts p t n) e.key =
    someone p t n told after fine step (no_source_leaves p.objects (site_of p e.key.dest) (cells_at s e.key.dest) e kind step.step.effect step.does_so leaves_so) in
    let birth : ℕ = slice_index (births p t n) one.number in
    let stands : slice_index_or (whereabouts p t n) one.number (one.job, has_left) ≡ (one.job, at_event e.key) = one.stands (one.job, has_left) in
    let P : Job × Place → Type 0 = λ at. IsKeptAt p s birth at.1 in
    let kept : IsKeptAt p s birth (at_event e.key) =
    subst P stands (kept_at p s (whereabouts p t n) (births p t n) one.number (one.job, has_left) (plain_births p t fine n) one.within) in
    let own : e ≡ kept.0 = it_is_that p t s told after step kept.0 kept.1 kept.3 in
    let born : e.b ≡ birth = born_as p s birth e kept own in
    let age : age_told told.1 ≡ time_part e.key.stamp - birth =
    told_age told e step.step.effect.note birth note
    (age_of p.objects (site_of p e.key.dest) (cells_at s e.key.dest) e kind step.step.effect step.does_so leaves_so) born in
    let A : Key → Type 0 = λ key. IsOfAge p t n key (age_told told.1) in
    subst A (sym key) (record { number = one.number; job = one.job; within = one.within; stands = stands; old = age })

-- what a sink with a due tells
sink_note : (sink : SinkOver) (e : Event) (cells : CellData) (quiet trace : Bool) (due : ℕ) (x : Effect) → sink.due ≡ Some due → sink_effect sink e ≡ Goes x
    → Each (λ (part : Part). part.word ≡ 9 → part.b ≤ due) (note_told quiet trace cells x)
unfolding sink_effect
sink_note sink e cells quiet trace due x has_due goes_so = by (is_late sink.due age) refl goes_so
  where
    age : ℕ
    age = time_part e.key.stamp - e.b

    in_time : (o : Option ℕ) → o ≡ Some due → is_late o (time_part e.key.stamp - e.b) ≡ false → time_part e.key.stamp - e.b ≤ due
    in_time None is late = absurd (cc)
    in_time (Some other) is late =
        let same : other ≡ due = some_is other due is in
        let upto : time_part e.key.stamp - e.b ≤ other = grind (arith, nat_tests) in
        omega arith
      where
        some_is : (a b : ℕ) → Some a ≡ Some b → a ≡ b
        some_is a b is = cc

    parts : (quiet trace : Bool) → time_part e.key.stamp - e.b ≤ due
        → Each (λ (part : Part). part.word ≡ 9 → part.b ≤ due) (note_told quiet trace cells (record { changes = []; sends = []; note = record { word = 9; a = e.a; b = time_part e.key.stamp - e.b } ∷ [] }))
    parts true trace upto = tt
    parts false false upto = (λ nine. upto, tt)
    parts false true upto = (λ nine. upto, (λ nine. absurd (let w : ◌≡◌ {A = ℕ} 10 9 = nine in omega arith), tt))

    by : (late : Bool) → is_late sink.due (time_part e.key.stamp - e.b) ≡ late
        → (if late then Fails 3 else Goes (record { changes = []; sends = []; note = record { word = 9; a = e.a; b = time_part e.key.stamp - e.b } ∷ [] })) ≡ Goes x
        → Each (λ (part : Part). part.word ≡ 9 → part.b ≤ due) (note_told quiet trace cells x)
    by true late is = absurd (cc)
    by false late is =
        let E : Effect → Type 0 = λ y. Each (λ (part : Part). part.word ≡ 9 → part.b ≤ due) (note_told quiet trace cells y) in
        subst E (goes-effect _ x is) (parts quiet trace (in_time sink.due has_due late))

told_goes : (object : Item) (cells : CellData) (outcome : Outcome) (x : Effect) → as_told object cells outcome ≡ Goes x
    → (y : Effect) × (outcome ≡ Goes y) × (x.note ≡ note_told object.quiet object.trace cells y)
told_goes object cells (Goes y) x is = (y, refl, sym (ap (λ (z : Effect). z.note) (goes-effect _ x is)))
told_goes object cells (Fails code) x is = absurd (cc)

none_late : (p : NetworkParts) (t : Terms) (i due : ℕ) (sink : SinkOver) (s : State) (told : Key × Note) (after : State) → IsSinkAt p i sink → sink.due ≡ Some due
    → next (network_meaning p) t s ≡ does told after → NoneIsOlder i due told
unfolding network_meaning
none_late p t i due sink s told after is has_due is_next at =
    let step : IsStep (network_meaning p) t s told after = is_step (network_meaning p) t s told after is_next in
    let e : Event = step.event in
    let d : ℕ = e.key.dest in
    let here : d ≡ i = ap (λ (k : Key). k.dest) (sym (ap (λ (r : Key × Note). r.0) step.tells)) ∙ at in
    let kind : (object_at p.objects d).kind ≡ Sink sink = ap (λ (j : ℕ). (object_at p.objects j).kind) here ∙ is in
    let goes = told_goes (object_at p.objects d) (cells_at s d) (effect_at (site_of p d) (object_at p.objects d).kind (cells_at s d) e) step.effect step.outcome in
    let sinks : sink_effect sink e ≡ Goes goes.0 = sym (ap (λ (kind : KindOver ℕ). effect_at (site_of p d) kind (cells_at s d) e) kind) ∙ goes.1 in
    let note : told.1 ≡ note_told (object_at p.objects d).quiet (object_at p.objects d).trace (cells_at s d) goes.0 = ap (λ (r : Key × Note). r.1) step.tells ∙ goes.2 in
    let N : Note → Type 0 = λ note. All (λ (part : Part). part.word ≡ 9 → part.b ≤ due) note in
    subst N (sym note)
    (All-from_recursion (λ (part : Part). part.word ≡ 9 → part.b ≤ due) _
    (sink_note sink e (cells_at s d) (object_at p.objects d).quiet (object_at p.objects d).trace due goes.0 has_due sinks))

pub due_law : NoneLeavesLate
unfolding gathered
due_law p t i n due sink is has_due =
    let m = network_meaning p in
    let R : List (Key × Note) → Type 0 = λ records. All (λ (told : Key × Note). NoneIsOlder i due told) records in
    each_number m t (λ n. R (first_records n m t)) (All-nil (λ (told : Key × Note). NoneIsOlder i due told))
    (λ n stop is_next before. subst R (sym (gathered-more record_of m t n (stops stop) is_next ∙ append-nil (first_records n m t))) before)
    (λ n told after is_next before.
    subst R (sym (gathered-more record_of m t n (does told after) is_next))
    (All-push (λ (told : Key × Note). NoneIsOlder i due told) (first_records n m t) told before (none_late p t i due sink (after_events n m t) told after is has_due is_next)))
    n
