-- The newest event of an object is undone, wherever it stands among those of others.
use Rattle.std.specs.Prelude.{◌≡◌, ℕ, suc, ◌-◌, ◌<◌, false, List, [], drop, length, slice_get, Some, nat_lt}
use Rattle.std.specs.List.{remove}
use Rattle.model_core.specs.declared.event.Event.{Event}
use Rattle.sim_spec.specs.Firing.{ObjectState}
use Rattle.object_log.specs.Dones.{Done}
use Rattle.object_log.specs.EventCalls.{ChangesAt}
use Rattle.object_log.specs.EventLogs.{EventLogView, dones_at}
use Rattle.object_log.specs.Logs.{before}

-- an event stands at this index, and none of its object stands behind it
pub record IsNewestAt (index : ℕ) (log : EventLogView) : Type 0 where
  pub newest : Done
  pub found : slice_get log.done index ≡ Some newest
  pub last : dones_at newest.event.key.dest (drop (suc index) log.done) ≡ []

-- it was undone, and is in hand
pub record HasUndoneAt (index : ℕ) (old new : EventLogView) (event : Event) : Type 0 where
  pub newest : Done
  pub found : slice_get old.done index ≡ Some newest
  pub done : new.done ≡ remove old.done index
  pub was : ObjectState
  pub changes : ChangesAt newest.event.key.dest old new was (before was newest)
  pub event_is : event ≡ newest.event

-- the last event isn't below a horizon
pub record LastIsFrom (horizon : ℕ) (ds : List Done) : Type 0 where
  pub last : Done
  pub some : 0 < length ds
  pub found : slice_get ds (length ds - 1) ≡ Some last
  pub from : nat_lt last.event.key.stamp horizon ≡ false
