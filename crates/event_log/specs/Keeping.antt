-- A processed event that is carried.
use Rattle.std.specs.Prelude.{◌≡◌, ◌<◌, List, length, Option, Some, None}
use Rattle.event_key.specs.declared.stamp.TheConstants.{NO_STAMP}
use Rattle.key_order.specs.Stamps.{least_stamp}
use Rattle.model_core.specs.declared.event.Event.{Event}
use Rattle.object_log.specs.Dones.{Done}
use Rattle.object_log.specs.Objects.{HasUndone, KeptObject}
use Rattle.object_log.specs.declared.pool.Released.{Released}
use Rattle.event_log.specs.declared.contents.Contents.{Contents}

-- the event with all that takes it back
abbrev pub done_in : Contents → Done
done_in c = record { event = c.event; undo = c.undo; sends = c.sends; verdict = c.verdict }

-- a cell holds the event, or there is one among those of its messages
abbrev pub HasCell : Event → List Event → Option Event → Type 0
HasCell event sends None = 0 < length sends
HasCell event sends (Some held) = held ≡ event

pub record IsKept (c : Contents) : Type 0 where
  pub least_is : c.least ≡ least_stamp NO_STAMP c.sends
  pub cell_is : HasCell c.event c.sends c.cell

-- its object has taken it back
pub record IsTakenBack (d : Done) (earlier later : KeptObject) (event : Event) : Type 0 where
  pub undone : HasUndone earlier later d
  pub event_is : event ≡ d.event

-- it is taken apart
pub record IsReleased (d : Done) (r : Released) : Type 0 where
  pub event_is : r.event ≡ d.event
  pub sends_are : r.sends ≡ d.sends
  pub verdict_is : r.verdict ≡ d.verdict
