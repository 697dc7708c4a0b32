-- What contracts see of the log of a node.
use Rattle.std.specs.Prelude.{◌≡◌, ℕ, List, [], filter, slice_index, IsPermutation, Option}
use Rattle.event_key.specs.declared.key.Key.{Key}
use Rattle.model_core.specs.declared.event.Event.{Event}
use Rattle.model_core.specs.declared.note.Note.{Note}
use Rattle.object_log.specs.Dones.{Done}
use Rattle.object_log.specs.EventLogs.{EventLogView}
use Rattle.object_log.specs.Flat.{goes_to}
use Rattle.object_log.specs.Logs.{held_of}
use Rattle.object_log.specs.Objects.{KeptObject}
use Rattle.object_log.specs.Parts.{due_of, left_of}
use Rattle.object_log.specs.Tellings.{told_all}
use Rattle.object_log.specs.Whole.{log_view}
use Rattle.event_log.specs.Outboxes.{chain_at}
use Rattle.event_log.specs.Processing.{ProcessedView}

-- its objects and all that they have processed, those of the events that aren't carried, the messages of those with their
-- homes, and how many homes there are
pub record NodeLogView : Type 0 where
  pub log : EventLogView
  pub news : List Done
  pub chained : List (ℕ × Event)
  pub nodes : ℕ

abbrev pub node_log_view : List KeptObject → ProcessedView → NodeLogView
node_log_view objects events = record { log = log_view objects events.items; news = events.news; chained = events.chained; nodes = events.nodes }

-- all events are carried, and no message lies in a chain
pub record IsCarried (v : NodeLogView) : Type 0 where
  pub news : v.news ≡ []
  pub chained : v.chained ≡ []

-- so they are still
pub record IsStillCarried (old new : NodeLogView) : Type 0 where
  pub news : new.news ≡ []
  pub chained : new.chained ≡ []
  pub nodes : new.nodes ≡ old.nodes

-- all that was due is committed: what is told of it, in the order of the keys, and its messages in the chains of these homes,
-- in whatever order. What isn't due is carried
pub record HasCommittedTo (homes : List ℕ) (horizon : ℕ) (cut : Option Key) (old new : NodeLogView) (told : List (Key × Note)) (out : List (List Event)) : Type 0 where
  pub objects : new.log.objects ≡ old.log.objects
  pub done : new.log.done ≡ left_of horizon cut old.log.done
  pub told_is : told ≡ told_all (due_of horizon cut old.log.done)
  pub parcels : (to : ℕ) → IsPermutation (filter (goes_to (slice_index homes) to) (held_of (due_of horizon cut old.log.done))) (chain_at out to)
  pub carried : IsCarried new
