-- What contracts see of a queue, and what holds of its parts.
use Rattle.std.specs.Prelude.{◌≡◌, ℕ, ◌+◌, ◌<◌, ◌≤◌, ◌^◌, List, [], ◌++◌, length}
use Rattle.std.specs.List.{AllByRecursion}
use Rattle.event_key.specs.Stamps.{time_part}
use Rattle.model_core.specs.declared.event.Event.{Event}
use Rattle.key_order.specs.Ascending.{IsAscending, AllAfter}
use Rattle.key_order.specs.Keys.{KeysDiffer}

-- all events in the order of their keys, how many of the first ones are at hand, and the least stamp of the fresh ones
pub record QueueView : Type 0 where
  pub pending : List Event
  pub at_hand : ℕ
  pub fresh_least : ℕ

-- the first event is at hand, if there is one
abbrev pub IsSettled : QueueView → Type 0
IsSettled q = q.at_hand ≡ 0 → q.pending ≡ []

-- the events at hand are in order, none is of a later tick, and each comes before all others
pub record AreInOrder (near : List Event) (tick : ℕ) (later : List Event) : Type 0 where
  pub up : IsAscending near
  pub reached : AllByRecursion (λ e. time_part e.key.stamp ≤ tick) near
  pub before : AllByRecursion (λ e. AllAfter e.key later) near
  pub distinct : KeysDiffer (near ++ later)
  pub few : length near + length later < 2 ^ 60
