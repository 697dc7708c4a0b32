-- The logs of a node's objects as one, with the homes of all objects.
use Rattle.std.specs.Prelude.{◌≡◌, ℕ, ◌<◌, List, length, is_some, slice_index_or, true}
use Rattle.object_log.specs.EventLogs.{EventLogView, state_in}
use Rattle.object_log.specs.Objects.{IsPlaced}
use Rattle.event_log.specs.NodeLogs.{NodeLogView}
use Rattle.event_log.specs.Processing.{AreHomed}
use Rattle.node_core.specs.Homes.{HomesView}

-- the homes of all objects of the model, and the log of those that are here
pub record LogsView : Type 0 where
  pub homes : HomesView
  pub log : EventLogView

-- each object that is here is one of the model and stands at its place, and messages lie at their homes
pub record AreLogged (homes : HomesView) (log : NodeLogView) (places : List ℕ) : Type 0 where
  pub long : length places ≡ length homes.homes
  pub nodes : log.nodes ≡ homes.nodes
  pub homed : AreHomed homes.homes log.chained
  pub inside : (object : ℕ) → is_some (state_in log.log.objects object) ≡ true → object < length homes.homes
  pub placed : (object : ℕ) → is_some (state_in log.log.objects object) ≡ true → IsPlaced log.log (slice_index_or places object 0) object
