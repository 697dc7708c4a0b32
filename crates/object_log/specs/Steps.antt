-- What undoing one event does.
use Rattle.std.specs.Prelude.{◌≡◌, ◌+◌, ◌-◌, ◌^◌, [], ◌∷◌, ◌++◌, length, min}
use Rattle.model_core.specs.declared.event.Event.{Event}
use Rattle.object_log.specs.Dones.{Done}
use Rattle.object_log.specs.Logs.{LogView, before}
use Rattle.object_log.specs.Pools.{PoolView}

-- the newest event is undone, and what else it leaves goes to the pool
pub record IsWithoutNewest (old new : LogView) (event : Event) (spent kept : PoolView) : Type 0 where
  pub newest : Done
  pub done : old.done ≡ new.done ++ newest ∷ []
  pub state : new.state ≡ before old.state newest
  pub object : new.object ≡ old.object
  pub event_is : event ≡ newest.event
  pub events : kept.events ≡ min (spent.events + length newest.sends) (2 ^ 60)
  pub entries : kept.entries ≡ min (spent.entries + 1) (2 ^ 60)
  pub lent : kept.lent ≡ spent.lent - 1
