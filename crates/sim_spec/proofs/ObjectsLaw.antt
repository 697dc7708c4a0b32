-- An object's part of a bucket is its own replay, and nothing that it does early comes before the bucket's end.
use Rattle.std.proofs.Common.{◌≡◌, ℕ, suc, ◌+◌, ◌-◌, ◌<◌, ◌≤◌, Bool, true, false, List, ◌∷◌, length, take, drop, sym, refl, ap, ◌∙◌, subst, arith, eqb, ltb, ltb-true, ltb-false}
use Rattle.std.proofs.lemmas.List.{append-nil}
use Rattle.std.specs.Prelude.{Option, Some, None}
use Rattle.std.specs.List.{AllByRecursion as Each}
use Rattle.event_key.specs.declared.key.Key.{Key}
use Rattle.event_key.specs.Keys.{key_lt}
use Rattle.event_key.specs.Stamps.{end_stamp}
use Rattle.event_key.proofs.Order.{key_lt-stamp}
use Rattle.model_core.specs.declared.event.Event.{Event}
use Rattle.model_core.specs.Meaning.{Meaning}
use Rattle.sim_spec.specs.declared.terms.Terms.{Terms}
use Rattle.sim_spec.specs.Firing.{Firing, fire, fails}
use Rattle.sim_spec.specs.State.{State, Lawful, object_at}
use Rattle.sim_spec.specs.Horizon.{HorizonBucket, horizon_bucket, reach_with, reach_of}
use Rattle.sim_spec.specs.Cut.{events_of, objects_after}
use Rattle.sim_spec.specs.Replay.{Replay, replay, events_at, done_at, early_replay, EmitsFrom, replay_after}
use Rattle.key_order.specs.Stamps.{NoneBelow}
use Rattle.sim_spec.specs.HorizonLaws.{IsPast, IsBelowHorizon, ObjectsLaw}
use Rattle.key_order.proofs.EachLemmas.{Each-map, Each-append, Each-take, Each-filter}
use Rattle.sim_spec.proofs.PartLemmas.{Each-events_at, events_at-append, events_at-first}
use Rattle.sim_spec.proofs.StampLemmas.{EmitsFrom-le}
use Rattle.sim_spec.proofs.BucketFacts.{bucket-in-turn}
use Rattle.sim_spec.proofs.HorizonLaw.{horizon_law}
use Rattle.sim_spec.proofs.ReplayLemmas.{replay-fault, replay-emits}
use Rattle.sim_spec.proofs.ObjectReplay.{GoFirst, in-turn-replay, events_behind, early-parts, early-split}
use Rattle.sim_spec.proofs.BucketInduction.{replay-fails}

module _ (m : Meaning) (t : Terms) (s : State) (lawful : Lawful m t s) (object : ℕ) (below : object < m.objects) where
  abbrev b : HorizonBucket
  b = horizon_bucket m t s

  abbrev tail : List Event
  tail = drop (length b.done) s.pending

  law : IsBelowHorizon m t s b
  law = horizon_law m t s lawful

  inside : object < length s.objects
  inside = let long = lawful.objects in omega arith

  goes_first : GoFirst m s b.done tail
  unfolding horizon_bucket
  goes_first = record { pending = law.first; turn = bucket-in-turn m (end_stamp t.end) s.objects s.pending }

  -- the object's events behind the bucket are past its end
  behind_past : (n : ℕ) → Each (λ (e : Event). IsPast b.horizon b.fault e.key) (events_behind m s b.done tail goes_first object inside n)
  behind_past n =
      Each-take (λ (e : Event). IsPast b.horizon b.fault e.key) (n - length (done_at object b.done)) (events_at object tail)
      (Each-events_at (λ (e : Event). IsPast b.horizon b.fault e.key) object tail law.past)

  fault_early : (fault : Key × ℕ) → b.fault ≡ Some fault → fault.0.stamp < b.horizon
  fault_early fault is_fault =
      let found = law.fault fault is_fault in
      let early : found.event.key.stamp < b.horizon = found.early in
      let stamp : found.event.key.stamp ≡ fault.0.stamp = ap (λ (k : Key). k.stamp) found.key in
      omega arith

  reach_within : (fault : Option (Key × ℕ)) → b.fault ≡ fault → reach_with b.horizon fault ≤ b.horizon
  reach_within None is_fault = omega arith
  reach_within (Some fault) is_fault = let early = fault_early fault is_fault in omega arith

  -- what is past the bucket's end sends nothing below the reach
  past_emits : (h : ℕ) (fault : Option (Key × ℕ)) (es : List Event) → Each (λ (e : Event). IsPast h fault e.key) es → (r : Replay)
      → ((g : ℕ) → NoneBelow g es → EmitsFrom (suc g) r.done) → EmitsFrom (reach_with h fault) r.done
  past_emits h None es past r emits = EmitsFrom-le h (suc h) r.done (omega arith) (emits h past)
  past_emits h (Some fault) es past r emits =
      EmitsFrom-le (fault.0.stamp + 1) (suc fault.0.stamp) r.done (omega arith)
      (emits fault.0.stamp (Each-map (λ (e : Event). key_lt e.key fault.0 ≡ false) (λ (e : Event). fault.0.stamp ≤ e.key.stamp) es (λ e late. not_earlier e.key fault.0 late) past))
    where
      not_earlier : (j k : Key) → key_lt j k ≡ false → k.stamp ≤ j.stamp
      not_earlier j k late = by_stamp (ltb j.stamp k.stamp) refl
        where
          by_stamp : (b : Bool) → ltb j.stamp k.stamp ≡ b → k.stamp ≤ j.stamp
          by_stamp true early = let before = key_lt-stamp j k (ltb-true j.stamp k.stamp early) in absurd (cc)
          by_stamp false later = ltb-false j.stamp k.stamp later

  own_emits : EmitsFrom b.horizon (done_at object b.done)
  unfolding done_at
  own_emits = Each-filter (λ (d : Event × Firing). NoneBelow b.horizon d.1.events) (λ d. eqb d.0.key.dest object) b.done law.emits

  sends : (n : ℕ) → EmitsFrom (reach_of b) (early_replay m s object n).done
  sends n =
      let parts = early-parts m s b.done tail goes_first object inside n in
      let es = events_behind m s b.done tail goes_first object inside n in
      let emitted = Each-take (λ (d : Event × Firing). NoneBelow b.horizon d.1.events) n (done_at object b.done) own_emits in
      let P : Replay → Type 0 = λ r. EmitsFrom (reach_of b) r.done in
      subst P (sym parts.1) (Each-append (λ (d : Event × Firing). NoneBelow (reach_of b) d.1.events) (take n (done_at object b.done)) (replay m object parts.0 es).done
      (EmitsFrom-le (reach_of b) b.horizon (take n (done_at object b.done)) (reach_within b.fault refl) emitted)
      (past_emits b.horizon b.fault es (behind_past n) (replay m object parts.0 es) (λ g. replay-emits m object g parts.0 es)))

  faults : (n : ℕ) (met : Key × ℕ) → (early_replay m s object n).fault ≡ Some met → IsPast b.horizon b.fault met.0
  faults n met is_met =
      let parts = early-parts m s b.done tail goes_first object inside n in
      replay-fault (IsPast b.horizon b.fault) m object parts.0 (events_behind m s b.done tail goes_first object inside n) (behind_past n) met
      (sym (ap (λ (r : Replay). r.fault) parts.1) ∙ is_met)

  -- what the object meets first behind the bucket is the event at which the bucket fails
  faulted : (n : ℕ) (fault : Key × ℕ) → b.fault ≡ Some fault → fault.0.dest ≡ object → length (done_at object b.done) < n
      → early_replay m s object n ≡ record { done = done_at object b.done; fault = Some fault; state = object_at (objects_after s.objects b.done) object }
  faulted n fault is_fault at_object enough =
      let found = law.fault fault is_fault in
      let e = found.event in
      let state = object_at (objects_after s.objects b.done) object in
      let ds = done_at object b.done in
      let here : e.key.dest ≡ object = ap (λ (k : Key). k.dest) found.key ∙ at_object in
      let F : ℕ → Type 0 = λ o. fire m o (object_at (objects_after s.objects b.done) o) e ≡ fails fault.1 in
      let fails_here : fire m object state e ≡ fails fault.1 = subst F here found.fails in
      let E : ℕ → Type 0 = λ o. events_at o (e ∷ found.behind) ≡ e ∷ events_at o found.behind in
      let next : events_at object tail ≡ e ∷ events_at object found.behind = ap (events_at object) found.first ∙ subst E here (events_at-first e found.behind) in
      let q = n - length ds - 1 in
      let more : n - length ds ≡ suc q = omega arith in
      let events : events_behind m s b.done tail goes_first object inside n ≡ e ∷ take q (events_at object found.behind) =
      ap (take (n - length ds)) next ∙ ap (λ k. take k (e ∷ events_at object found.behind)) more in
      let same : (e.key, fault.1) ≡ fault = ap (λ (k : Key). (k, fault.1)) found.key in
      early-split m s b.done tail goes_first object inside n (omega arith)
      ∙ ap (λ es. replay_after ds (replay m object state es)) events
      ∙ ap (replay_after ds) (replay-fails m object state e (take q (events_at object found.behind)) fault.1 fails_here)
      ∙ λ i. record { done = append-nil ds i; fault = Some (same i); state = state }

pub objects_law : (m : Meaning) (t : Terms) → ObjectsLaw m t
objects_law m t s lawful object below =
    let b = horizon_bucket m t s in
    record {
      prefix = ap (events_at object) (law m t s lawful object below).first ∙ events_at-append object (events_of b.done) (drop (length b.done) s.pending);
      outcomes = in-turn-replay m object s.objects b.done (inside m t s lawful object below) (goes_first m t s lawful object below).turn;
      sends = sends m t s lawful object below;
      faults = faults m t s lawful object below;
      faulted = faulted m t s lawful object below;
    }
