-- A bucket is the next events of the run, and the run goes on at its fault or at the limit.
use Rattle.std.proofs.Common.{◌≡◌, ℕ, ◌-◌, ◌<◌, ◌≤◌, min, Bool, true, false, cond, ◌&&◌, ◌||◌, List, [], ◌∷◌, ◌++◌, length, take, drop, sym, refl, ap, ◌∙◌, subst, arith, eqb, ltb, ltb-true, ltb-false, eqb-true, eq-eqb, length-take, take-append-drop}
use Rattle.std.proofs.lemmas.List.{append-nil, take_all}
use Rattle.std.specs.Prelude.{is_some, Option, Some, None}
use Rattle.std.specs.List.{AllByRecursion as Each}
use Rattle.event_key.specs.declared.key.Key.{Key}
use Rattle.event_key.specs.Stamps.{end_stamp}
use Rattle.model_core.specs.declared.event.Event.{Event}
use Rattle.model_core.specs.Meaning.{Meaning, MeaningLaws}
use Rattle.sim_spec.specs.declared.stop.Stop.TheVariants.{Limit, Fault}
use Rattle.sim_spec.specs.declared.terms.Terms.{Terms}
use Rattle.sim_spec.specs.Firing.{Firing}
use Rattle.key_order.specs.Pending.{enqueue_all}
use Rattle.sim_spec.specs.State.{State, Lawful}
use Rattle.sim_spec.specs.Run.{next, next_fired, stops, Leads}
use Rattle.sim_spec.specs.Horizon.{HorizonBucket, horizon_bucket}
use Rattle.sim_spec.specs.Cut.{events_of, emissions_of, state_with_done, is_limited, committed_events, after, cut}
use Rattle.sim_spec.specs.HorizonLaws.{BucketLaw}
use Rattle.key_order.proofs.EachLemmas.{Each-back}
use Rattle.sim_spec.proofs.StampLemmas.{NoneBelow-emissions_of}
use Rattle.sim_spec.proofs.LawfulLemmas.{leads-lawful}
use Rattle.sim_spec.proofs.RunLemmas.{run-leads, next-full, next-fires}
use Rattle.sim_spec.proofs.InTurnLemmas.{ComeBelow, in-turn-leads, drop-front, done-pending}
use Rattle.sim_spec.proofs.HorizonLaw.{horizon_law, bucket-comes, ComeBelow-take, events_of-split, pending-split}

-- what a limited bucket says of the events that are left, and what another one says where it has a fault
limited_says : (left : ℕ) (b : HorizonBucket) → is_limited left b ≡ true → (left ≤ length b.done) × (left ≡ length b.done → is_some b.fault ≡ true)
unfolding is_limited
limited_says left b limited = by_tests (ltb left (length b.done)) (eqb left (length b.done)) refl refl limited
  where
    by_tests : (p q : Bool) → ltb left (length b.done) ≡ p → eqb left (length b.done) ≡ q → (p || (q && is_some b.fault)) ≡ true
        → (left ≤ length b.done) × (left ≡ length b.done → is_some b.fault ≡ true)
    by_tests true q is_p is_q limited = let lt = ltb-true left (length b.done) is_p in (omega arith, λ same. absurd (omega arith))
    by_tests false true is_p is_q limited = let same = eqb-true left (length b.done) is_q in (omega arith, λ _. limited)
    by_tests false false is_p is_q limited = absurd (cc)

faulted_says : (left : ℕ) (b : HorizonBucket) → is_limited left b ≡ false → is_some b.fault ≡ true → length b.done < left
unfolding is_limited
faulted_says left b unlimited some_fault = by_tests (ltb left (length b.done)) (eqb left (length b.done)) refl refl unlimited
  where
    by_tests : (p q : Bool) → ltb left (length b.done) ≡ p → eqb left (length b.done) ≡ q → (p || (q && is_some b.fault)) ≡ false → length b.done < left
    by_tests true q is_p is_q unlimited = absurd (cc)
    by_tests false true is_p is_q unlimited = absurd (cc)
    by_tests false false is_p is_q unlimited =
        let le = ltb-false left (length b.done) is_p in
        let apart : left ≡ length b.done → ⊥ = λ same. let q = eq-eqb left (length b.done) same in cc in
        omega arith

pub some_of : {A : Type 0} (o : Option A) → is_some o ≡ true → (x : A) × (o ≡ Some x)
some_of (Some x) is = (x, refl)
some_of None is = absurd (cc)

-- a pending event below a bound comes first behind these
record IsDueBehind (s : State) (h : ℕ) (ds : List (Event × Firing)) : Type 0 where
  event : Event
  behind : List Event
  first : drop (length ds) s.pending ≡ event ∷ behind
  early : event.key.stamp < h

module _ (m : Meaning) (t : Terms) (s : State) (lawful : Lawful m t s) where
  abbrev b : HorizonBucket
  b = horizon_bucket m t s

  abbrev left : ℕ
  left = t.limit - s.count

  comes : ComeBelow m s.objects b.horizon b.done
  comes = bucket-comes m t s lawful

  splits : (k : ℕ) → s.pending ≡ events_of (take k b.done) ++ (events_of (drop k b.done) ++ drop (length b.done) s.pending)
  splits k = pending-split k s.pending b.done (drop (length b.done) s.pending) (horizon_law m t s lawful).first

  leads : Leads m t s (cut m t s).done (after m t s)
  unfolding cut after committed_events
  leads =
      let few : length (take left b.done) ≡ min left (length b.done) = length-take left b.done in
      let room : s.count ≤ t.limit = lawful.count in
      in-turn-leads m t s b.horizon (take left b.done) (events_of (drop left b.done) ++ drop (length b.done) s.pending) (splits left)
      (ComeBelow-take m left s.objects b.horizon b.done comes) (horizon_law m t s lawful).within (omega arith)

  -- where the bucket goes on behind its first k events, or with a fault, an event is due there
  due_behind : (k : ℕ) → (k ≡ length b.done → is_some b.fault ≡ true) → k ≤ length b.done → IsDueBehind s b.horizon (take k b.done)
  due_behind k ends few = by_rest (drop k b.done) refl
    where
      by_rest : (ds : List (Event × Firing)) → drop k b.done ≡ ds → IsDueBehind s b.horizon (take k b.done)
      by_rest (x ∷ xs) is_rest =
          let tail = drop (length b.done) s.pending in
          let E : List Event → Type 0 = Each (λ (e : Event). e.key.stamp < b.horizon) in
          let R : List (Event × Firing) → Type 0 = λ ds. E (events_of ds) in
          let early : E (events_of (x ∷ xs)) = subst R is_rest (Each-back (λ (e : Event). e.key.stamp < b.horizon) (events_of (take k b.done)) (events_of (drop k b.done)) (subst E (events_of-split k b.done) comes.early)) in
          record {
            event = x.0;
            behind = events_of xs ++ tail;
            first = ap (drop (length (take k b.done))) (splits k) ∙ drop-front (take k b.done) (events_of (drop k b.done) ++ tail) ∙ ap (λ ds. events_of ds ++ tail) is_rest;
            early = early.0;
          }
      by_rest [] is_rest =
          let all : take k b.done ≡ b.done = sym (append-nil (take k b.done)) ∙ ap (λ ds. take k b.done ++ ds) (sym is_rest) ∙ take-append-drop k b.done in
          let short : length (take k b.done) ≡ min k (length b.done) = length-take k b.done in
          let long : length (take k b.done) ≡ length b.done = ap length all in
          let fault = some_of b.fault (ends (omega arith)) in
          let found = (horizon_law m t s lawful).fault fault.0 fault.1 in
          record { event = found.event; behind = found.behind; first = ap (λ ds. drop (length ds) s.pending) all ∙ found.first; early = found.early }

  limited_next : (cut m t s).limited ≡ true → next m t (after m t s) ≡ stops Limit
  unfolding cut after committed_events state_with_done
  limited_next limited =
      let says = limited_says left b limited in
      let due = due_behind left says.1 says.0 in
      let within : b.horizon ≤ end_stamp t.end = (horizon_law m t s lawful).within in
      let early : due.event.key.stamp < b.horizon = due.early in
      let come = ComeBelow-take m left s.objects b.horizon b.done comes in
      let few : length (take left b.done) ≡ min left (length b.done) = length-take left b.done in
      let room : s.count ≤ t.limit = lawful.count in
      let upto : left ≤ length b.done = says.0 in
      next-full m t (state_with_done s (take left b.done)) due.event (enqueue_all (emissions_of (take left b.done)) due.behind)
      (done-pending s b.horizon (take left b.done) due.event due.behind due.first (NoneBelow-emissions_of b.horizon (take left b.done) come.emits) early)
      (omega arith) (omega arith)

  unlimited_fault : (limited : Bool) (f : Option (Key × ℕ)) (fault : Key × ℕ) → cond limited None f ≡ Some fault → (limited ≡ false) × (f ≡ Some fault)
  unlimited_fault true f fault is_fault = absurd (cc)
  unlimited_fault false f fault is_fault = (refl, is_fault)

  fault_next : (fault : Key × ℕ) → (cut m t s).fault ≡ Some fault → next m t (after m t s) ≡ stops (Fault fault.0 fault.1)
  unfolding cut after committed_events state_with_done next_fired
  fault_next fault is_fault =
      let says = unlimited_fault (is_limited left b) b.fault fault is_fault in
      let short : length b.done < left = faulted_says left b says.0 (ap is_some says.1) in
      let all : take left b.done ≡ b.done = take_all left b.done (omega arith) in
      let found = (horizon_law m t s lawful).fault fault says.1 in
      let within : b.horizon ≤ end_stamp t.end = (horizon_law m t s lawful).within in
      let early : found.event.key.stamp < b.horizon = found.early in
      let s' = state_with_done s b.done in
      let rest = enqueue_all (emissions_of b.done) found.behind in
      ap (λ ds. next m t (state_with_done s ds)) all
      ∙ next-fires m t s' found.event rest
      (done-pending s b.horizon b.done found.event found.behind found.first (NoneBelow-emissions_of b.horizon b.done comes.emits) early)
      (omega arith) (λ full. omega arith)
      ∙ ap (next_fired s' found.event rest) found.fails
      ∙ ap (λ key. stops (Fault key fault.1)) found.key

pub bucket_law : (m : Meaning) (t : Terms) → MeaningLaws m → BucketLaw m t
bucket_law m t laws s lawful = record {
  leads = leads m t s lawful;
  lawful = leads-lawful m t (cut m t s).done s (after m t s) laws lawful (leads m t s lawful);
  run = run-leads m t (cut m t s).done s (after m t s) lawful.count (leads m t s lawful);
  fault = fault_next m t s lawful;
  limited = limited_next m t s lawful;
}
