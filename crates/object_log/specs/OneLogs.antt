-- The log of one object, as a case of that of many.
use Rattle.std.specs.Prelude.{◌≡◌, ℕ, List, [], ◌∷◌}
use Rattle.std.specs.List.{AllByRecursion}
use Rattle.sim_spec.specs.Firing.{ObjectState}
use Rattle.sim_spec.specs.State.{no_object}
use Rattle.object_log.specs.Dones.{Done}
use Rattle.object_log.specs.Logs.{LogView}
use Rattle.object_log.specs.EventLogs.{EventLogView, ObjectView}

abbrev pub only_state : List ObjectView → ObjectState
only_state [] = no_object
only_state (o ∷ os) = o.state

-- all that is processed is its own
abbrev pub only_log : ℕ → EventLogView → LogView
only_log object log = record { object = object; state = only_state log.objects; done = log.done }

-- it is the only object, and all events are at it
pub record IsOnly (object : ℕ) (log : EventLogView) : Type 0 where
  pub state : ObjectState
  pub objects : log.objects ≡ (record { object = object; state = state }) ∷ []
  pub own : AllByRecursion (λ (d : Done). d.event.key.dest ≡ object) log.done
