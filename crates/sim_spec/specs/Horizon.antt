-- The event horizon (Steinman, "Discrete-Event Simulation and the Event Horizon", 1994): of all that is sent
-- in a cycle nothing has an earlier stamp, so the pending events below it can be fired together.
use Rattle.std.specs.Prelude.{ℕ, ◌+◌, List, [], ◌∷◌, if◌then◌else◌, nat_lt, slice_set, Option, Some, None}
use Rattle.event_key.specs.declared.key.Key.{Key}
use Rattle.event_key.specs.Stamps.{end_stamp}
use Rattle.model_core.specs.declared.event.Event.{Event}
use Rattle.model_core.specs.Meaning.{Meaning}
use Rattle.sim_spec.specs.declared.terms.Terms.{Terms}
use Rattle.sim_spec.specs.Firing.{ObjectState, Firing, Fired, goes, fails, fire}
use Rattle.sim_spec.specs.State.{State, object_at}
use Rattle.key_order.specs.Stamps.{least_stamp}

-- the events that go, with what they leave, the horizon, and the event that fails with its code
pub record HorizonBucket : Type 0 where
  pub done : List (Event × Firing)
  pub horizon : ℕ
  pub fault : Option (Key × ℕ)

-- no event is below the horizon
abbrev pub empty_bucket : ℕ → HorizonBucket
empty_bucket h = record { done = []; horizon = h; fault = None }

-- a bucket with an event before its own
abbrev pub bucket_with : Event × Firing → HorizonBucket → HorizonBucket
bucket_with d b = record b { done = d ∷ b.done }

-- the bucket whose first event comes out so: nothing is fired after a fault
unfoldable pub bucket_fired : ℕ → Event → (Firing → HorizonBucket) → Fired → HorizonBucket
bucket_fired h e more (fails code) = record { done = []; horizon = h; fault = Some (e.key, code) }
bucket_fired h e more (goes x) = bucket_with (e, x) (more x)

-- the pending events in order, below a horizon that each lowers to what it sends
unfoldable pub bucket_below : Meaning → ℕ → List ObjectState → List Event → HorizonBucket
bucket_below m h objects [] = empty_bucket h
bucket_below m h objects (e ∷ rest) =
    if nat_lt e.key.stamp h
    then bucket_fired h e (λ x. bucket_below m (least_stamp h x.events) (slice_set objects e.key.dest x.state) rest)
    (fire m e.key.dest (object_at objects e.key.dest) e)
    else empty_bucket h

-- the bucket of a state: nothing past the end is fired
unfoldable pub horizon_bucket : Meaning → Terms → State → HorizonBucket
horizon_bucket m t s = bucket_below m (end_stamp t.end) s.objects s.pending

-- the horizon, and where an event fails the next stamp after its own
abbrev pub reach_with : ℕ → Option (Key × ℕ) → ℕ
reach_with h None = h
reach_with h (Some fault) = fault.0.stamp + 1

-- no object that runs ahead of the bucket sends anything below this stamp
abbrev pub reach_of : HorizonBucket → ℕ
reach_of b = reach_with b.horizon b.fault

abbrev pub reach : Meaning → Terms → State → ℕ
reach m t s = reach_of (horizon_bucket m t s)
