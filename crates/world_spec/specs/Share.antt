-- What one node stands for.
use Rattle.std.specs.Prelude.{◌≡◌, ℕ, ◌<◌, Bool, IsTrue, List, filter, take, drop, ◌==◌}
use Rattle.std.specs.List.{AllByRecursion}
use Rattle.event_key.specs.Stamps.{end_stamp}
use Rattle.model_core.specs.declared.event.Event.{Event}
use Rattle.model_core.specs.Meaning.{Meaning}
use Rattle.sim_spec.specs.declared.terms.Terms.{Terms}
use Rattle.sim_spec.specs.Firing.{ObjectState}
use Rattle.key_order.specs.Ascending.{IsAscending}
use Rattle.sim_spec.specs.State.{State, object_at}
use Rattle.sim_spec.specs.Replay.{Replay, replay, events_at, taken}

-- the states of a node's objects, and their pending events in the order of their keys
pub record Share : Type 0 where
  pub states : ℕ → ObjectState
  pub pending : List Event

-- an object of the node
abbrev pub IsHome : Meaning → (ℕ → ℕ) → ℕ → ℕ → Type 0
IsHome m home node object = (object < m.objects) × (home object ≡ node)

abbrev pub is_at : (ℕ → ℕ) → ℕ → Event → Bool
is_at home node e = home e.key.dest == node

-- a node's share of a state
pub record IsShareOf (m : Meaning) (home : ℕ → ℕ) (s : State) (node : ℕ) (share : Share) : Type 0 where
  pub states : (object : ℕ) → IsHome m home node object → share.states object ≡ object_at s.objects object
  pub pending : share.pending ≡ filter (is_at home node) s.pending

-- the first n pending events of an object, and what its log holds once it has processed them
abbrev pub ahead_events : Share → ℕ → ℕ → List Event
ahead_events share object n = take n (events_at object share.pending)

unfoldable pub log_of : Meaning → Share → ℕ → ℕ → Replay
log_of m share object n = replay m object (share.states object) (ahead_events share object n)

-- an object has processed n events, all below the end bound, and only the last one may have failed
pub record IsAhead (m : Meaning) (t : Terms) (share : Share) (object n : ℕ) : Type 0 where
  pub whole : taken (log_of m share object n) ≡ n
  pub below : AllByRecursion (λ e. e.key.stamp < end_stamp t.end) (ahead_events share object n)

-- what a node holds: a log for each of its objects, and the events that it hasn't processed, in order
pub record NodeData : Type 0 where
  pub log : ℕ → Replay
  pub unprocessed : List Event

abbrev pub IsAtHome : Meaning → (ℕ → ℕ) → ℕ → Event → Type 0
IsAtHome m home node e = IsHome m home node e.key.dest

-- a node stands for a share, and each of its objects is so far ahead: its log is the replay of that many pending
-- events, with their verdicts, held messages and inverse changes, and the others wait
pub record StandsFor (m : Meaning) (t : Terms) (home : ℕ → ℕ) (node : ℕ) (share : Share) (ahead : ℕ → ℕ) (held : NodeData) : Type 0 where
  pub ordered : IsAscending share.pending
  pub homed : AllByRecursion (IsAtHome m home node) share.pending
  pub cells : (object : ℕ) → IsHome m home node object → IsTrue (m.lawful object (share.states object).cells)
  pub early : (object : ℕ) → IsHome m home node object → IsAhead m t share object (ahead object)
  pub logs : (object : ℕ) → IsHome m home node object → held.log object ≡ log_of m share object (ahead object)
  pub waiting_ordered : IsAscending held.unprocessed
  pub waiting_homed : AllByRecursion (IsAtHome m home node) held.unprocessed
  pub waiting : (object : ℕ) → IsHome m home node object → events_at object held.unprocessed ≡ drop (ahead object) (events_at object share.pending)
