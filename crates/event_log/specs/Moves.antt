-- Objects that move between logs with all that they have processed.
use Rattle.std.specs.Prelude.{ℕ, ◌==◌, List, map, filter, not, if◌then◌else◌}
use Rattle.object_log.specs.Carrying.{Placed}
use Rattle.object_log.specs.EventLogs.{is_of}
use Rattle.object_log.specs.Logs.{LogView}
use Rattle.object_log.specs.Objects.{KeptObject, state_of}
use Rattle.object_log.specs.Whole.{dones_in}

-- for how many objects and for how many events there is room
pub record RoomView : Type 0 where
  pub places : ℕ
  pub events : ℕ

-- the log of an object that has left, for how many events there is room where that lies, and for how many objects
pub record MovedLogView : Type 0 where
  pub log : LogView
  pub room : ℕ
  pub places : ℕ

abbrev pub moved_view : KeptObject → List Placed → ℕ → ℕ → MovedLogView
moved_view o items room places = record { log = record { object = o.object; state = state_of o; done = dones_in items }; room = room; places = places }

-- where an object stands once the last one has come to the place of one that left
abbrev pub place_after : ℕ → ℕ → ℕ → ℕ
place_after last place at = if at == last then place else at

-- what stood at one place has another
abbrev pub shifted : ℕ → ℕ → Placed → Placed
shifted from to p = record { done = p.done; place = place_after from to p.place }

-- what an object has processed, alone, and what the others have
abbrev pub alone : Placed → Placed
alone p = record { done = p.done; place = 0 }

abbrev pub own_items : ℕ → List Placed → List Placed
own_items object items = map alone (filter (λ p. is_of object p.done) items)

abbrev pub other_items : ℕ → List Placed → List Placed
other_items object = filter (λ p. not (is_of object p.done))
