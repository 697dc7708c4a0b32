-- Events at hand.
use Rattle.std.specs.Prelude.{◌≡◌, ◌⊎◌, ℕ, ◌<◌, ◌≤◌, true, false, List, [], ◌∷◌, ◌++◌, length, Contains, IsPermutation}
use Rattle.std.specs.List.{AllByRecursion}
use Rattle.event_key.specs.declared.key.Key.{Key}
use Rattle.event_key.specs.Keys.{key_lt}
use Rattle.event_key.specs.Stamps.{time_part}
use Rattle.model_core.specs.declared.event.Event.{Event}
use Rattle.key_order.specs.Ascending.{IsAscending}
use Rattle.tick_queue.specs.Levels.{LevelsView, IsOfTick, IsLaterThan}
use Rattle.tick_queue.specs.Order.{AreInside}

-- so many of the events at these places are done, and there are as many as come before a pause
pub record ArePlaced (done stop : ℕ) (es : List Event) (places : List ℕ) : Type 0 where
  pub few : done ≤ length places
  pub upto : stop ≤ length places
  pub inside : AreInside es places

-- a list begins with this event
abbrev pub StartsWith : List Event → Event → Type 0
StartsWith es e = (rest : List Event) × (es ≡ e ∷ rest)

-- a list loses its first event
abbrev pub LosesFirst : List Event → List Event → Type 0
LosesFirst old new = (e : Event) × (old ≡ e ∷ new)

-- each event comes before this key
abbrev pub AllBefore : Key → List Event → Type 0
AllBefore key es = AllByRecursion (λ e. key_lt e.key key ≡ true) es

-- some event doesn't come before this key
abbrev pub HasLater : Key → List Event → Type 0
HasLater key es = (e : Event) × Contains es e × (key_lt e.key key ≡ false)

-- an event of this tick or a later one comes after those at hand
abbrev pub GoesLater : List Event → ℕ → Event → Type 0
GoesLater near now e = (now ≤ time_part e.key.stamp) × AllBefore e.key near

-- an event is of an earlier tick, or of this one and doesn't come after those at hand
abbrev pub GoesNear : List Event → ℕ → Event → Type 0
GoesNear near now e = (time_part e.key.stamp < now) ⊎ ((time_part e.key.stamp ≡ now) × HasLater e.key near)

-- the events of the next tick that has some come to hand, in order, and the others are later
pub record Refills (old new : LevelsView) (near : List Event) : Type 0 where
  pub events : IsPermutation old.events (near ++ new.events)
  pub up : IsAscending near
  pub of_tick : AllByRecursion (IsOfTick new.tick) near
  pub later : AllByRecursion (IsLaterThan new.tick) new.events
  pub some : near ≡ [] → new.events ≡ []
