-- Objects at their places.
use Rattle.std.specs.Prelude.{◌≡◌, ◌≢◌, ℕ, ◌+◌, ◌<◌, ◌^◌, List, [], ◌∷◌, ◌++◌, length, slice_get, Some, None, is_some, true}
use Rattle.std.specs.List.{AllByRecursion}
use Rattle.event_key.specs.Keys.{key_lt}
use Rattle.delta_exchange.specs.Spares.{NoneFell}
use Rattle.delta_exchange.specs.Views.{CellsView}
use Rattle.key_order.specs.Ascending.{Ascends}
use Rattle.model_core.specs.declared.event.Event.{Event}
use Rattle.model_core.specs.Meaning.{Meaning}
use Rattle.sim_spec.specs.Firing.{ObjectState, fire}
use Rattle.object_log.specs.Dones.{Done}
use Rattle.object_log.specs.Keeping.{Keeps, OnlyLastFailed}
use Rattle.object_log.specs.Logs.{before, fault_of, keys_of}
use Rattle.object_log.specs.Replays.{IsTold}
use Rattle.object_log.specs.EventLogs.{EventLogView, ObjectView, done_key, dones_at, state_in}

-- an object with its cells, and how many events it has sent
pub record KeptObject : Type 0 where
  pub object : ℕ
  pub cells : CellsView
  pub sent : ℕ

abbrev pub state_of : KeptObject → ObjectState
state_of o = record { cells = o.cells.contents; sent = o.sent }

-- an event can follow these: it comes after them, none of them failed, and they are few
pub record CanFollow (ds : List Done) (d : Done) : Type 0 where
  pub above : AllByRecursion (λ k. key_lt k d.event.key ≡ true) (keys_of ds)
  pub went : fault_of ds ≡ None
  pub few : length ds + 1 < 2 ^ 60

-- an object fired an event: what it kept before of others, which the event can follow, it keeps with the event
pub record HasFired (m : Meaning) (old new : KeptObject) (event : Event) (d : Done) : Type 0 where
  pub object : new.object ≡ old.object
  pub event_is : d.event ≡ event
  pub told_of : IsTold (fire m old.object (state_of old) event) (state_of old) (state_of new) d d.verdict
  pub undoes : before (state_of new) d ≡ state_of old
  pub keeps : (ds : List Done) → CanFollow ds d → Keeps old.cells old.sent ds → Keeps new.cells new.sent (ds ++ d ∷ [])

-- the same object, with no less room in its lines
pub record IsSameObject (old new : KeptObject) : Type 0 where
  pub object : new.object ≡ old.object
  pub contents : new.cells.contents ≡ old.cells.contents
  pub sent : new.sent ≡ old.sent
  pub none_fell : NoneFell old.cells.spare new.cells.spare

-- the event was the last to fire
abbrev pub IsNewest : KeptObject → Done → Type 0
IsNewest o d = (ds : List Done) × Keeps o.cells o.sent (ds ++ d ∷ [])

-- it was taken back
pub record HasUndone (old new : KeptObject) (d : Done) : Type 0 where
  pub object : new.object ≡ old.object
  pub state : state_of new ≡ before (state_of old) d
  pub keeps : (ds : List Done) → Keeps old.cells old.sent (ds ++ d ∷ []) → Keeps new.cells new.sent ds

-- no two have one number
unfoldable pub AreApart : List ObjectView → Type 0
AreApart [] = Unit {0}
AreApart (o ∷ os) = AllByRecursion (λ (p : ObjectView). p.object ≢ o.object) os × AreApart os

-- the object with this number stands at this place
abbrev pub IsPlaced : EventLogView → ℕ → ℕ → Type 0
IsPlaced log place object = (o : ObjectView) × (slice_get log.objects place ≡ Some o) × (o.object ≡ object)

pub record AreSound (log : EventLogView) : Type 0 where
  pub apart : AreApart log.objects
  pub ordered : Ascends done_key log.done
  pub here : AllByRecursion (λ (d : Done). is_some (state_in log.objects d.event.key.dest) ≡ true) log.done
  pub last : (object : ℕ) → OnlyLastFailed (dones_at object log.done)
  pub few : length log.done < 2 ^ 60
