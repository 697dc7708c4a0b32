-- A bucket is exactly the pending events before its end.
use Rattle.std.proofs.Common.{◌≡◌, ℕ, zero, suc, ◌<◌, List, [], ◌∷◌, ◌++◌, take, drop, sym, refl, ap, ◌∙◌, subst, arith, take-append-drop, append_assoc}
use Rattle.std.specs.Prelude.{Option, Some, None}
use Rattle.std.specs.List.{AllByRecursion as Each}
use Rattle.event_key.specs.declared.key.Key.{Key}
use Rattle.event_key.specs.Stamps.{end_stamp}
use Rattle.event_key.proofs.Order.{stamp-le}
use Rattle.model_core.specs.declared.event.Event.{Event}
use Rattle.model_core.specs.Meaning.{Meaning}
use Rattle.sim_spec.specs.declared.terms.Terms.{Terms}
use Rattle.sim_spec.specs.Firing.{ObjectState, Firing}
use Rattle.sim_spec.specs.State.{State, Lawful}
use Rattle.sim_spec.specs.Horizon.{horizon_bucket}
use Rattle.sim_spec.specs.Cut.{events_of}
use Rattle.key_order.specs.Stamps.{NoneBelow}
use Rattle.sim_spec.specs.HorizonLaws.{IsBefore, IsBelowHorizon, HorizonLaw}
use Rattle.key_order.proofs.EachLemmas.{Each-map, Each-front, Each-take}
use Rattle.sim_spec.proofs.PartLemmas.{events_of-append}
use Rattle.sim_spec.proofs.BucketInduction.{objects_with}
use Rattle.sim_spec.proofs.BucketFacts.{GoInTurn, bucket-in-turn, bucket-first, horizon-le, bucket-emits, horizon-from, bucket-before, bucket-past, bucket-fault}
use Rattle.sim_spec.proofs.InTurnLemmas.{ComeBelow}

pub horizon_law : (m : Meaning) (t : Terms) → HorizonLaw m t
unfolding horizon_bucket
horizon_law m t s lawful =
    let h = end_stamp t.end in
    record {
      first = bucket-first m h s.objects s.pending;
      before = bucket-before m h s.objects s.pending lawful.ordered;
      past = bucket-past m h s.objects s.pending lawful.ordered;
      within = horizon-le m h s.objects s.pending;
      emits = bucket-emits m h s.objects s.pending;
      greatest = λ g. horizon-from m g h s.objects s.pending;
      fault = bucket-fault m h s.objects s.pending;
    }

-- what comes before the end of a bucket is below its horizon
before_early : (h : ℕ) (fault : Option (Key × ℕ)) → ((f : Key × ℕ) → fault ≡ Some f → f.0.stamp < h) → (key : Key) → IsBefore h fault key → key.stamp < h
before_early h None early key before = before
before_early h (Some f) early key before = let le = stamp-le key f.0 before in let lt = early f refl in omega arith

-- so the events of a bucket go in turn, each below the horizon
pub bucket-comes : (m : Meaning) (t : Terms) (s : State) → Lawful m t s → ComeBelow m s.objects (horizon_bucket m t s).horizon (horizon_bucket m t s).done
unfolding horizon_bucket
bucket-comes m t s lawful =
    let b = horizon_bucket m t s in
    let law : IsBelowHorizon m t s b = horizon_law m t s lawful in
    let fault_early : (f : Key × ℕ) → b.fault ≡ Some f → f.0.stamp < b.horizon = λ f is_f.
    let found = law.fault f is_f in
    let early : found.event.key.stamp < b.horizon = found.early in
    let stamp : found.event.key.stamp ≡ f.0.stamp = ap (λ (k : Key). k.stamp) found.key in
    omega arith in
    record {
      turn = bucket-in-turn m (end_stamp t.end) s.objects s.pending;
      early = Each-map (λ (e : Event). IsBefore b.horizon b.fault e.key) (λ (e : Event). e.key.stamp < b.horizon) (events_of b.done) (λ e. before_early b.horizon b.fault fault_early e.key) law.before;
      emits = law.emits;
    }

pub GoInTurn-take : (m : Meaning) (k : ℕ) (objects : List ObjectState) (ds : List (Event × Firing)) → GoInTurn m objects ds → GoInTurn m objects (take k ds)
unfolding GoInTurn
GoInTurn-take m zero objects ds turn = tt
GoInTurn-take m (suc k) objects [] turn = tt
GoInTurn-take m (suc k) objects (d ∷ ds) turn = (turn.0, GoInTurn-take m k (objects_with objects d.0 d.1) ds turn.1)

-- events, by the first k of them
pub events_of-split : (k : ℕ) (ds : List (Event × Firing)) → events_of ds ≡ events_of (take k ds) ++ events_of (drop k ds)
events_of-split k ds = ap events_of (sym (take-append-drop k ds)) ∙ events_of-append (take k ds) (drop k ds)

pub ComeBelow-take : (m : Meaning) (k : ℕ) (objects : List ObjectState) (h : ℕ) (ds : List (Event × Firing)) → ComeBelow m objects h ds → ComeBelow m objects h (take k ds)
ComeBelow-take m k objects h ds come =
    let E : List Event → Type 0 = Each (λ (e : Event). e.key.stamp < h) in
    record {
      turn = GoInTurn-take m k objects ds come.turn;
      early = Each-front (λ (e : Event). e.key.stamp < h) (events_of (take k ds)) (events_of (drop k ds)) (subst E (events_of-split k ds) come.early);
      emits = Each-take (λ (d : Event × Firing). NoneBelow h d.1.events) k ds come.emits;
    }

-- the first k events of a bucket, and the pending events behind them
pub pending-split : (k : ℕ) (pending : List Event) (ds : List (Event × Firing)) (rest : List Event) → pending ≡ events_of ds ++ rest
    → pending ≡ events_of (take k ds) ++ (events_of (drop k ds) ++ rest)
pending-split k pending ds rest is_pending =
    is_pending ∙ ap (λ es. es ++ rest) (events_of-split k ds) ∙ append_assoc (events_of (take k ds)) (events_of (drop k ds)) rest
