-- What contracts see of events by their ticks, and what holds of the slots that keep them.
use Rattle.std.specs.Prelude.{◌≡◌, ◌≢◌, ℕ, ◌*◌, ◌/◌, ◌<◌, ◌≤◌, ◌^◌, List, [], ◌∷◌, ◌++◌, length, slice_set, slice_index_or, IsPermutation}
use Rattle.std.specs.List.{AllByRecursion}
use Rattle.event_key.specs.Stamps.{time_part}
use Rattle.model_core.specs.declared.event.Event.{Event}
use Rattle.tick_queue.specs.Digits.{InSlot}

-- a tick, the events of this tick and later ones in no order, and for how many more there is room certain
pub record LevelsView : Type 0 where
  pub tick : ℕ
  pub events : List Event
  pub spare : ℕ

-- the event's tick stands in this slot
abbrev pub StandsIn : ℕ → ℕ → Event → Type 0
StandsIn now slot e = InSlot now slot (time_part e.key.stamp)

-- each event stands in its slot
abbrev pub StandIn : ℕ → List (List Event) → Type 0
StandIn now slots = (i : ℕ) → AllByRecursion (StandsIn now i) (slice_index_or slots i [])

-- what holds of the fields
pub record AreLevels (tick : ℕ) (slots : List (List Event)) : Type 0 where
  pub small : tick < 2 ^ 48
  pub stand : StandIn tick slots

-- an event goes to the front of its slot
pub record PutsIn (now : ℕ) (old new : List (List Event)) (e : Event) : Type 0 where
  pub slot : ℕ
  pub within : slot < length old
  pub at : InSlot now slot (time_part e.key.stamp)
  pub is : new ≡ slice_set old slot (e ∷ slice_index_or old slot [])

-- the events of one slot stand no more where now they should, but all begin with the digits of the tick at hand
pub record Spreads (now slot : ℕ) (slots : List (List Event)) : Type 0 where
  pub small : now < 2 ^ 48
  pub high : 64 ≤ slot
  pub begins : AllByRecursion (λ e. (now ≤ time_part e.key.stamp) × (time_part e.key.stamp / 2 ^ (6 * (slot / 64)) ≡ now / 2 ^ (6 * (slot / 64)))) (slice_index_or slots slot [])
  pub others : (i : ℕ) → i ≢ slot → AllByRecursion (StandsIn now i) (slice_index_or slots i [])

-- some of the events are left
abbrev pub HasLeft : List Event → List Event → Type 0
HasLeft old new = (gone : List Event) × IsPermutation old (gone ++ new)

-- the event's tick is this one, or later
abbrev pub IsOfTick : ℕ → Event → Type 0
IsOfTick tick e = time_part e.key.stamp ≡ tick

abbrev pub IsLaterThan : ℕ → Event → Type 0
IsLaterThan tick e = tick < time_part e.key.stamp

-- the events of the next tick that has some are due, and the others are later
pub record Advances (old new : LevelsView) (due : List Event) : Type 0 where
  pub events : IsPermutation old.events (due ++ new.events)
  pub of_tick : AllByRecursion (IsOfTick new.tick) due
  pub later : AllByRecursion (IsLaterThan new.tick) new.events
  pub some : due ≡ [] → new.events ≡ []
