-- What is known of a bucket: which events it has, in what order they go, and where it ends.
use Rattle.std.proofs.Common.{◌≡◌, ℕ, suc, ◌<◌, ◌≤◌, true, false, List, [], ◌∷◌, ◌++◌, length, drop, refl, ap, ◌∙◌, arith}
use Rattle.std.specs.Prelude.{Some}
use Rattle.std.specs.List.{AllByRecursion as Each}
use Rattle.event_key.specs.declared.key.Key.{Key}
use Rattle.event_key.specs.Keys.{key_lt}
use Rattle.event_key.proofs.Order.{key_lt-irrefl, stamp-le, key_lt-turned}
use Rattle.model_core.specs.declared.event.Event.{Event}
use Rattle.model_core.specs.Meaning.{Meaning}
use Rattle.sim_spec.specs.Firing.{ObjectState, Firing, goes, fails}
use Rattle.key_order.specs.Ascending.{AllAfter, IsAscending, Ascends}
use Rattle.sim_spec.specs.State.{object_at}
use Rattle.sim_spec.specs.Horizon.{bucket_below, reach_of}
use Rattle.key_order.specs.Stamps.{least_stamp, NoneBelow}
use Rattle.sim_spec.specs.Cut.{events_of, objects_after}
use Rattle.sim_spec.specs.Replay.{EmitsFrom}
use Rattle.sim_spec.specs.HorizonLaws.{IsBefore, IsPast, IsNextFault}
use Rattle.key_order.proofs.EachLemmas.{Each-map}
use Rattle.key_order.proofs.StampLemmas.{NoneBelow-le, NoneBelow-least_stamp, least_stamp-le, least_stamp-from}
use Rattle.sim_spec.proofs.StampLemmas.{fire-later}
use Rattle.sim_spec.proofs.BucketInduction.{fire_at, objects_with, bucket-induction}

-- each event goes, from the states that those before it leave
unfoldable pub GoInTurn : Meaning → List ObjectState → List (Event × Firing) → Type 0
GoInTurn m objects [] = Unit {0}
GoInTurn m objects (d ∷ ds) = (fire_at m objects d.0 ≡ goes d.1) × GoInTurn m (objects_with objects d.0 d.1) ds

pub bucket-in-turn : (m : Meaning) (h : ℕ) (objects : List ObjectState) (pending : List Event) → GoInTurn m objects (bucket_below m h objects pending).done
unfolding GoInTurn
bucket-in-turn m = bucket-induction m (λ h objects pending b. GoInTurn m objects b.done) (record {
  none = λ h objects. tt;
  past = λ h objects e rest late. tt;
  faults = λ h objects e rest code early is_f. tt;
  goes = λ h objects e rest x early is_x more. (is_x, more);
})

-- its events are the first pending ones
pub bucket-first : (m : Meaning) (h : ℕ) (objects : List ObjectState) (pending : List Event)
    → pending ≡ events_of (bucket_below m h objects pending).done ++ drop (length (bucket_below m h objects pending).done) pending
bucket-first m = bucket-induction m (λ h objects pending b. pending ≡ events_of b.done ++ drop (length b.done) pending) (record {
  none = λ h objects. refl;
  past = λ h objects e rest late. refl;
  faults = λ h objects e rest code early is_f. refl;
  goes = λ h objects e rest x early is_x more i. e ∷ more i;
})

-- the horizon only falls, to the least stamp that is sent
pub horizon-le : (m : Meaning) (h : ℕ) (objects : List ObjectState) (pending : List Event) → (bucket_below m h objects pending).horizon ≤ h
horizon-le m = bucket-induction m (λ h objects pending b. b.horizon ≤ h) (record {
  none = λ h objects. omega arith;
  past = λ h objects e rest late. omega arith;
  faults = λ h objects e rest code early is_f. omega arith;
  goes = λ h objects e rest x early is_x more. let le = least_stamp-le h x.events in omega arith;
})

pub bucket-emits : (m : Meaning) (h : ℕ) (objects : List ObjectState) (pending : List Event) → EmitsFrom (bucket_below m h objects pending).horizon (bucket_below m h objects pending).done
bucket-emits m = bucket-induction m (λ h objects pending b. EmitsFrom b.horizon b.done) (record {
  none = λ h objects. tt;
  past = λ h objects e rest late. tt;
  faults = λ h objects e rest code early is_f. tt;
  goes = λ h objects e rest x early is_x more.
      let b = bucket_below m (least_stamp h x.events) (objects_with objects e x) rest in
      (NoneBelow-le b.horizon (least_stamp h x.events) x.events (horizon-le m (least_stamp h x.events) (objects_with objects e x) rest) (NoneBelow-least_stamp h x.events), more);
})

-- a bound on all that is sent bounds the horizon
pub horizon-from : (m : Meaning) (g h : ℕ) (objects : List ObjectState) (pending : List Event) → g ≤ h → EmitsFrom g (bucket_below m h objects pending).done → g ≤ (bucket_below m h objects pending).horizon
horizon-from m g = bucket-induction m (λ h objects pending b. g ≤ h → EmitsFrom g b.done → g ≤ b.horizon) (record {
  none = λ h objects le from. le;
  past = λ h objects e rest late le from. le;
  faults = λ h objects e rest code early is_f le from. le;
  goes = λ h objects e rest x early is_x more le from. more (least_stamp-from g h x.events le from.0) from.1;
})

-- so does the reach
pub reach-le : (m : Meaning) (h : ℕ) (objects : List ObjectState) (pending : List Event) → reach_of (bucket_below m h objects pending) ≤ h
reach-le m = bucket-induction m (λ h objects pending b. reach_of b ≤ h) (record {
  none = λ h objects. omega arith;
  past = λ h objects e rest late. omega arith;
  faults = λ h objects e rest code early is_f. omega arith;
  goes = λ h objects e rest x early is_x more. let le = least_stamp-le h x.events in omega arith;
})

-- a key below the horizon at the start and before all pending events is before the bucket's end
pub first-before : (m : Meaning) (k : Key) (h : ℕ) (objects : List ObjectState) (pending : List Event) → AllAfter k pending → k.stamp < h
    → IsBefore (bucket_below m h objects pending).horizon (bucket_below m h objects pending).fault k
first-before m k = bucket-induction m (λ h objects pending b. AllAfter k pending → k.stamp < h → IsBefore b.horizon b.fault k) (record {
  none = λ h objects after below. below;
  past = λ h objects e rest late after below. below;
  faults = λ h objects e rest code early is_f after below. after.0;
  goes = λ h objects e rest x early is_x more after below.
      let le = stamp-le k e.key after.0 in
      let later : NoneBelow (suc k.stamp) x.events = NoneBelow-le (suc k.stamp) (suc e.key.stamp) x.events (omega arith) (fire-later m e.key.dest (object_at objects e.key.dest) e x is_x) in
      more after.1 (least_stamp-from (suc k.stamp) h x.events below later);
})

-- each of its events is before its end
pub bucket-before : (m : Meaning) (h : ℕ) (objects : List ObjectState) (pending : List Event) → IsAscending pending
    → Each (λ (e : Event). IsBefore (bucket_below m h objects pending).horizon (bucket_below m h objects pending).fault e.key) (events_of (bucket_below m h objects pending).done)
unfolding Ascends
bucket-before m = bucket-induction m (λ h objects pending b. IsAscending pending → Each (λ (e : Event). IsBefore b.horizon b.fault e.key) (events_of b.done)) (record {
  none = λ h objects up. tt;
  past = λ h objects e rest late up. tt;
  faults = λ h objects e rest code early is_f up. tt;
  goes = λ h objects e rest x early is_x more up. (
    first-before m e.key (least_stamp h x.events) (objects_with objects e x) rest up.0
        (least_stamp-from (suc e.key.stamp) h x.events early (fire-later m e.key.dest (object_at objects e.key.dest) e x is_x)),
    more up.1,
  );
})

-- and each pending event behind them is past it
pub bucket-past : (m : Meaning) (h : ℕ) (objects : List ObjectState) (pending : List Event) → IsAscending pending
    → Each (λ (e : Event). IsPast (bucket_below m h objects pending).horizon (bucket_below m h objects pending).fault e.key) (drop (length (bucket_below m h objects pending).done) pending)
unfolding Ascends
bucket-past m = bucket-induction m (λ h objects pending b. IsAscending pending → Each (λ (e : Event). IsPast b.horizon b.fault e.key) (drop (length b.done) pending)) (record {
  none = λ h objects up. tt;
  past = λ h objects e rest late up.
      (late, Each-map (λ (x : Event). key_lt e.key x.key ≡ true) (λ (x : Event). h ≤ x.key.stamp) rest (λ x lt. let le = stamp-le e.key x.key lt in omega arith) up.0);
  faults = λ h objects e rest code early is_f up.
      (key_lt-irrefl e.key, Each-map (λ (x : Event). key_lt e.key x.key ≡ true) (λ (x : Event). key_lt x.key e.key ≡ false) rest (λ x lt. key_lt-turned e.key x.key lt) up.0);
  goes = λ h objects e rest x early is_x more up. more up.1;
})

-- its fault is that of the first pending event behind it
pub bucket-fault : (m : Meaning) (h : ℕ) (objects : List ObjectState) (pending : List Event) (fault : Key × ℕ) → (bucket_below m h objects pending).fault ≡ Some fault
    → IsNextFault m objects pending (bucket_below m h objects pending) fault
unfolding objects_after
bucket-fault m h objects pending fault = bucket-induction m (λ h objects pending b. b.fault ≡ Some fault → IsNextFault m objects pending b fault) (record {
  none = λ h objects is_fault. absurd (cc);
  past = λ h objects e rest late is_fault. absurd (cc);
  faults = λ h objects e rest code early is_f is_fault.
      let same : (e.key, code) ≡ fault = some_is (e.key, code) fault is_fault in
      record {
        event = e;
        behind = rest;
        first = refl;
        key = ap (λ (f : Key × ℕ). f.0) same;
        early = early;
        fails = is_f ∙ ap (λ (f : Key × ℕ). fails f.1) same;
      };
  goes = λ h objects e rest x early is_x more is_fault.
      let found = more is_fault in
      record { event = found.event; behind = found.behind; first = found.first; key = found.key; early = found.early; fails = found.fails };
}) h objects pending
  where
    some_is : (a b : Key × ℕ) → Some a ≡ Some b → a ≡ b
    some_is a b is = cc
