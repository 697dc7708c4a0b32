-- The records of a run are in ascending order.
use Rattle.std.proofs.Common.{◌≡◌, ℕ, suc, ◌≤◌, true, List, [], ◌∷◌, ◌++◌, refl, sym, ap, ◌∙◌, subst, append-nil, arith, get_or}
use Rattle.std.specs.Prelude.{All}
use Rattle.std.specs.List.{AllPairs, AllByRecursion as Each}
use Rattle.std.proofs.lemmas.List.Elements.{All-nil, All-push, All-weaker}
use Rattle.std.proofs.lemmas.List.Quantifiers.{all_pairs_push}
use Rattle.event_key.specs.declared.key.Key.{Key}
use Rattle.event_key.specs.Keys.{key_lt}
use Rattle.event_key.proofs.Order.{key_lt-stamp, stamp-le}
use Rattle.model_core.specs.declared.event.Event.{Event}
use Rattle.model_core.specs.declared.note.Note.{Note}
use Rattle.model_core.specs.Meaning.{Meaning, MeaningLaws}
use Rattle.sim_spec.specs.declared.terms.Terms.{Terms}
use Rattle.key_order.specs.Ascending.{IsAscending, Ascends}
use Rattle.sim_spec.specs.State.{State, Lawful}
use Rattle.sim_spec.specs.Run.{stops, does, next}
use Rattle.key_order.proofs.EachLemmas.{Each-map}
use Rattle.sim_spec.proofs.StampLemmas.{fire-later}
use Rattle.run_laws.specs.Reached.{after_events, gathered, record_of, first_records}
use Rattle.run_laws.specs.RunLaws.{RecordsAscend}
use Rattle.key_order.proofs.EnqueueLemmas.{Each-enqueue_all}
use Rattle.run_laws.proofs.Induction.{after_events-does, after_events-stops, gathered-more, each_number}
use Rattle.run_laws.proofs.ReachedLemmas.{reached-lawful}
use Rattle.run_laws.proofs.Steps.{IsStep, is_step, step_fires, first_firing}

abbrev Before : Key × Note → Key × Note → Type 0
Before earlier later = key_lt earlier.0 later.0 ≡ true

-- every event has a greater key
abbrev AllLater : Key → List Event → Type 0
AllLater k es = Each (λ (e : Event). key_lt k e.key ≡ true) es

-- the records so far are in order, and what is pending is later than each of them
record Ordered (records : List (Key × Note)) (pending : List Event) : Type 0 where
  pub ordered : AllPairs Before records
  pub later : All (λ (r : Key × Note). AllLater r.0 pending) records

-- what holds of what is pending before and of what is sent holds of what is pending after
pub step_keeps : (m : Meaning) (t : Terms) (s : State) (told : Key × Note) (after : State) (P : Event → Type 0) (step : IsStep m t s told after)
    → Each P (first_firing s step.event step.effect).events → Each P step.rest → Each P after.pending
step_keeps m t s told after P step sent rest =
    let Q : State → Type 0 = λ s. Each P s.pending in
    subst Q (sym step.leaves) (Each-enqueue_all P (first_firing s step.event step.effect).events step.rest sent rest)

-- what is sent is later than its cause
sent_later : (m : Meaning) (t : Terms) (s : State) (told : Key × Note) (after : State) (k : Key) (step : IsStep m t s told after) → k.stamp ≤ step.event.key.stamp
    → AllLater k (first_firing s step.event step.effect).events
sent_later m t s told after k step upto =
    Each-map (λ (e : Event). suc step.event.key.stamp ≤ e.key.stamp) (λ (e : Event). key_lt k e.key ≡ true) (first_firing s step.event step.effect).events
    (λ e late. key_lt-stamp k e.key (omega arith))
    (fire-later m step.event.key.dest _ step.event (first_firing s step.event step.effect) (step_fires m t s told after step))

ordered_more : (m : Meaning) (t : Terms) (s : State) (told : Key × Note) (after : State) (records : List (Key × Note)) → Lawful m t s → next m t s ≡ does told after
    → Ordered records s.pending → Ordered (records ++ told ∷ []) after.pending
unfolding Ascends
ordered_more m t s told after records lawful is_next before =
    let step : IsStep m t s told after = is_step m t s told after is_next in
    let P : List Event → Type 0 = IsAscending in
    let up : IsAscending (step.event ∷ step.rest) = subst P step.pending lawful.ordered in
    let rest_later : AllLater step.event.key step.rest = up.0 in
    let key : told.0 ≡ step.event.key = ap (λ (r : Key × Note). r.0) step.tells in
    let pending : (r : Key × Note) → AllLater r.0 s.pending → AllLater r.0 (step.event ∷ step.rest) = λ r later. (let Q : List Event → Type 0 = AllLater r.0 in subst Q step.pending later) in
    let kept : (r : Key × Note) → AllLater r.0 s.pending → AllLater r.0 after.pending =
    λ r later. let all : AllLater r.0 (step.event ∷ step.rest) = pending r later in
    step_keeps m t s told after (λ (e : Event). key_lt r.0 e.key ≡ true) step
    (sent_later m t s told after r.0 step (stamp-le r.0 step.event.key all.0)) all.1 in
    let own : AllLater step.event.key after.pending =
    step_keeps m t s told after (λ (e : Event). key_lt step.event.key e.key ≡ true) step (sent_later m t s told after step.event.key step (omega arith)) rest_later in
    let K : Key → Type 0 = λ k. AllLater k after.pending in
    let B : Key → Type 0 = λ k. (r : Key × Note) → AllLater r.0 s.pending → key_lt r.0 k ≡ true in
    let earlier : (r : Key × Note) → AllLater r.0 s.pending → key_lt r.0 told.0 ≡ true = subst B (sym key) (λ r later. (pending r later).0) in
    record {
      ordered = all_pairs_push Before records told before.ordered (λ k d below. earlier (get_or records k d) (before.later k d below));
      later = All-push (λ (r : Key × Note). AllLater r.0 after.pending) records told
          (All-weaker (λ (r : Key × Note). AllLater r.0 s.pending) (λ (r : Key × Note). AllLater r.0 after.pending) kept records before.later)
          (subst K (sym key) own);
    }

ordered_run : (m : Meaning) (t : Terms) → MeaningLaws m → (n : ℕ) → Ordered (first_records n m t) (after_events n m t).pending
unfolding gathered
ordered_run m t laws =
    each_number m t (λ n. Ordered (first_records n m t) (after_events n m t).pending)
    (record { ordered = λ i j d lt below. absurd (omega arith); later = All-nil (λ (r : Key × Note). AllLater r.0 (after_events 0 m t).pending) })
    (λ n stop is_next before.
    let R : List (Key × Note) → Type 0 = λ records. Ordered records (after_events (suc n) m t).pending in
    let S : State → Type 0 = λ s. Ordered (first_records n m t) s.pending in
    subst R (sym (gathered-more record_of m t n (stops stop) is_next ∙ append-nil (first_records n m t)))
    (subst S (sym (after_events-stops m t n stop is_next)) before))
    (λ n told after is_next before.
    let R : List (Key × Note) → Type 0 = λ records. Ordered records (after_events (suc n) m t).pending in
    let S : State → Type 0 = λ s. Ordered (first_records n m t ++ told ∷ []) s.pending in
    subst R (sym (gathered-more record_of m t n (does told after) is_next))
    (subst S (sym (after_events-does m t n told after is_next))
    (ordered_more m t (after_events n m t) told after (first_records n m t) (reached-lawful m t (after_events n m t) laws (n, refl)) is_next before)))

pub records_ascend : (m : Meaning) (t : Terms) → MeaningLaws m → RecordsAscend m t
records_ascend m t laws n = (ordered_run m t laws n).ordered

-- each record has a lesser key than what is pending after it
pub records_first : (m : Meaning) (t : Terms) → MeaningLaws m → (n : ℕ)
    → All (λ (r : Key × Note). Each (λ (e : Event). key_lt r.0 e.key ≡ true) (after_events n m t).pending) (first_records n m t)
records_first m t laws n = (ordered_run m t laws n).later
