-- The events of one object, one after another.
use Rattle.std.specs.Prelude.{ℕ, ◌+◌, List, [], ◌∷◌, ◌++◌, length, filter, take, ◌==◌, Option, Some, None}
use Rattle.std.specs.List.{AllByRecursion}
use Rattle.event_key.specs.declared.key.Key.{Key}
use Rattle.model_core.specs.declared.event.Event.{Event}
use Rattle.model_core.specs.Meaning.{Meaning}
use Rattle.sim_spec.specs.Firing.{ObjectState, Firing, Fired, goes, fails, fire}
use Rattle.sim_spec.specs.State.{State, object_at}
use Rattle.key_order.specs.Stamps.{NoneBelow}

-- the events that go, with what they leave, the event that fails with its code, and the state in the end
pub record Replay : Type 0 where
  pub done : List (Event × Firing)
  pub fault : Option (Key × ℕ)
  pub state : ObjectState

-- a replay with an event before its own
abbrev pub replay_with : Event × Firing → Replay → Replay
replay_with d r = record r { done = d ∷ r.done }

-- a replay with events before its own
abbrev pub replay_after : List (Event × Firing) → Replay → Replay
replay_after ds r = record r { done = ds ++ r.done }

-- the replay whose first event comes out so
unfoldable pub replay_fired : ObjectState → Event → (Firing → Replay) → Fired → Replay
replay_fired state e more (fails code) = record { done = []; fault = Some (e.key, code); state = state }
replay_fired state e more (goes x) = replay_with (e, x) (more x)

-- events at an object from its state, up to the first fault
unfoldable pub replay : Meaning → ℕ → ObjectState → List Event → Replay
replay m object state [] = record { done = []; fault = None; state = state }
replay m object state (e ∷ es) = replay_fired state e (λ x. replay m object x.state es) (fire m object state e)

abbrev pub fault_count : Option (Key × ℕ) → ℕ
fault_count None = 0
fault_count (Some fault) = 1

-- how many events a replay has taken: those that went, and the one that failed
abbrev pub taken : Replay → ℕ
taken r = length r.done + fault_count r.fault

-- the events at one object
unfoldable pub events_at : ℕ → List Event → List Event
events_at object es = filter (λ e. e.key.dest == object) es

-- what is done at one object
unfoldable pub done_at : ℕ → List (Event × Firing) → List (Event × Firing)
done_at object ds = filter (λ d. d.0.key.dest == object) ds

-- an object runs ahead: its first n pending events, whatever the others do
unfoldable pub early_replay : Meaning → State → ℕ → ℕ → Replay
early_replay m s object n = replay m object (object_at s.objects object) (take n (events_at object s.pending))

-- nothing that is sent has a stamp below h
abbrev pub EmitsFrom : ℕ → List (Event × Firing) → Type 0
EmitsFrom h ds = AllByRecursion (λ d. NoneBelow h d.1.events) ds
