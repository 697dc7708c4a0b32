-- How far each object has run ahead of a state, whatever the others did: optimistic processing, which is undone
-- where a message comes late (Jefferson, "Virtual Time", 1985).
use Rattle.std.specs.Prelude.{◌≡◌, ◌⊎◌, ℕ, ◌+◌, ◌<◌, ◌≤◌, Bool, true, List, [], ◌∷◌, length, take, drop, if◌then◌else◌, Some, Contains}
use Rattle.std.specs.List.{list_all, AllByRecursion}
use Rattle.event_key.specs.declared.key.Key.{Key}
use Rattle.event_key.specs.Keys.{key_lt}
use Rattle.event_key.specs.Stamps.{end_stamp}
use Rattle.model_core.specs.declared.event.Event.{Event}
use Rattle.model_core.specs.Meaning.{Meaning}
use Rattle.sim_spec.specs.declared.terms.Terms.{Terms}
use Rattle.sim_spec.specs.Firing.{Firing}
use Rattle.sim_spec.specs.State.{State}
use Rattle.sim_spec.specs.Cut.{emissions_of}
use Rattle.sim_spec.specs.Replay.{early_replay, events_at, done_at, EmitsFrom, taken}

-- the first n pending events of an object
abbrev pub early_events : State → ℕ → ℕ → List Event
early_events s object n = take n (events_at object s.pending)

-- an object has run ahead by n events, all below the end bound, and only the last one may have failed
pub record IsEarly (m : Meaning) (t : Terms) (s : State) (object n : ℕ) : Type 0 where
  pub whole : taken (early_replay m s object n) ≡ n
  pub below : AllByRecursion (λ e. e.key.stamp < end_stamp t.end) (early_events s object n)

-- each object has run ahead by so many events
abbrev pub RunsAhead : Meaning → Terms → State → (ℕ → ℕ) → Type 0
RunsAhead m t s ahead = (object : ℕ) → object < m.objects → IsEarly m t s object (ahead object)

-- some object holds a message with this stamp
abbrev pub IsHeld : Meaning → State → (ℕ → ℕ) → ℕ → Type 0
IsHeld m s ahead stamp =
    (object : ℕ) × (object < m.objects) × (e : Event) × Contains (emissions_of (early_replay m s object (ahead object)).done) e × (e.key.stamp ≡ stamp)

-- some object has met a fault with a smaller key
abbrev pub IsPastFault : Meaning → State → (ℕ → ℕ) → Key → Type 0
IsPastFault m s ahead key =
    (object : ℕ) × (object < m.objects) × (fault : Key × ℕ) × ((early_replay m s object (ahead object)).fault ≡ Some fault) × (key_lt fault.0 key ≡ true)

-- a cycle is closed at a bound, the event horizon as far as it was met (Steinman, "Discrete-Event Simulation and the
-- Event Horizon", 1994): the bound is the end or the stamp of a held message, no held message is below it, and
-- no event waits below it, unless behind a fault
pub record IsClosed (m : Meaning) (t : Terms) (s : State) (ahead : ℕ → ℕ) (bound : ℕ) : Type 0 where
  pub reached : (bound ≡ end_stamp t.end) ⊎ IsHeld m s ahead bound
  pub within : bound ≤ end_stamp t.end
  pub held : (object : ℕ) → object < m.objects → EmitsFrom bound (early_replay m s object (ahead object)).done
  pub waiting : (object : ℕ) → object < m.objects
      → AllByRecursion (λ e. (bound ≤ e.key.stamp) ⊎ IsPastFault m s ahead e.key) (drop (ahead object) (events_at object s.pending))

-- the event comes before each of these messages
unfoldable pub is_before_all : List Event → Event → Bool
is_before_all messages e = list_all (λ x. key_lt e.key x.key) messages

-- how many events at the front pass
module _ (passes : Event → Bool) where
  unfoldable pub leading : List Event → ℕ
  leading [] = 0
  leading (e ∷ es) = if passes e then 1 + leading es else 0

-- how far an object is ahead once the first events are committed and their messages received: up to the first
-- event that doesn't come before each message to the object
unfoldable pub kept : State → List (Event × Firing) → (ℕ → ℕ) → ℕ → ℕ
kept s done ahead object =
    leading (is_before_all (events_at object (emissions_of done))) (drop (length (done_at object done)) (early_events s object (ahead object)))
