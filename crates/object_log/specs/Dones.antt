-- What contracts see of a processed event.
use Rattle.std.specs.Prelude.{List}
use Rattle.delta_exchange.specs.declared.change.Change.{Change}
use Rattle.model_core.specs.declared.event.Event.{Event}
use Rattle.object_log.specs.declared.done.Verdict.{Verdict}

-- an event, what undoes its changes, from the last to the first, the messages that it sends, and what came of it
pub record Done : Type 0 where
  pub event : Event
  pub undo : List Change
  pub sends : List Event
  pub verdict : Verdict
