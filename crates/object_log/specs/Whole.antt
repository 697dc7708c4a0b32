-- What is true of each log of many objects.
use Rattle.std.specs.Prelude.{◌≡◌, ℕ, ◌<◌, ◌^◌, List, length, map, slice_get, Some}
use Rattle.std.specs.List.{AllByRecursion}
use Rattle.key_order.specs.Ascending.{Ascends}
use Rattle.object_log.specs.Carrying.{Placed, placed_key}
use Rattle.object_log.specs.Dones.{Done}
use Rattle.object_log.specs.EventLogs.{EventLogView, ObjectView, dones_at}
use Rattle.object_log.specs.Keeping.{Keeps}
use Rattle.object_log.specs.Objects.{AreApart, KeptObject, state_of}

abbrev pub object_view : KeptObject → ObjectView
object_view o = record { object = o.object; state = state_of o }

abbrev pub dones_in : List Placed → List Done
dones_in = map (λ p. p.done)

abbrev pub log_view : List KeptObject → List Placed → EventLogView
log_view objects items = record { objects = map object_view objects; done = dones_in items }

-- an object stands at its place
abbrev pub StandsAt : List KeptObject → ℕ → ℕ → Type 0
StandsAt objects place object = (o : KeptObject) × (slice_get objects place ≡ Some o) × (o.object ≡ object)

-- no two objects have one number, each can go back through its events, each event's object stands at its place, and the
-- events are in order and few
pub record IsEventLog (objects : List KeptObject) (items : List Placed) : Type 0 where
  pub apart : AreApart (map object_view objects)
  pub keeps : AllByRecursion (λ (o : KeptObject). Keeps o.cells o.sent (dones_at o.object (dones_in items))) objects
  pub places : AllByRecursion (λ (p : Placed). StandsAt objects p.place p.done.event.key.dest) items
  pub ordered : Ascends placed_key items
  pub few : length items < 2 ^ 60
