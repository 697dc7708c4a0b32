-- What contracts see of an engine.
use Rattle.std.specs.Prelude.{ℕ, List, Option, Some, None}
use Rattle.event_key.specs.declared.key.Key.{Key}
use Rattle.sim_spec.specs.declared.terms.Terms.{Terms}
use Rattle.sim_spec.specs.Firing.{ObjectState}
use Rattle.sim_spec.specs.State.{State}
use Rattle.sim_spec.specs.Standing.{Standing, stands, spent}
use Rattle.tick_queue.specs.Queues.{QueueView, IsSettled}

-- a simulation under way: its objects, the pending events, and how many are done
pub record Course : Type 0 where
  pub objects : List ObjectState
  pub queue : QueueView
  pub count : ℕ

-- the state at which it stands
abbrev pub state_of : Course → State
state_of c = record { objects = c.objects; pending = c.queue.pending; count = c.count }

-- its first event is at hand, if it has one
abbrev pub IsReady : Option Course → Type 0
IsReady None = Unit {0}
IsReady (Some c) = IsSettled c.queue

-- a model, how far it goes, and where the engine stands
pub record EngineView (M : Type 0) : Type 0 where
  pub model : M
  pub terms : Terms
  pub standing : Standing

-- where an engine stands, if it has a simulation still
abbrev pub standing_of : Option Course → Option (Key × ℕ) → Standing
standing_of None fault = spent
standing_of (Some c) fault = stands (state_of c) fault
