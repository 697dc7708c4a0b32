-- Lists in the order of their keys.
use Rattle.std.specs.Prelude.{◌≡◌, true, List, [], ◌∷◌}
use Rattle.std.specs.List.{AllByRecursion}
use Rattle.event_key.specs.declared.key.Key.{Key}
use Rattle.event_key.specs.Keys.{key_lt}
use Rattle.model_core.specs.declared.event.Event.{Event}

-- elements that have keys, as events and what is told of them
module _ {X : Type 0} (key : X → Key) where
  -- each element has a greater key
  abbrev pub After : Key → List X → Type 0
  After k xs = AllByRecursion (λ x. key_lt k (key x) ≡ true) xs

  -- each element comes before those behind it
  unfoldable pub Ascends : List X → Type 0
  Ascends [] = Unit {0}
  Ascends (x ∷ xs) = After (key x) xs × Ascends xs

abbrev pub key_of : Event → Key
key_of e = e.key

-- each event has a greater key
abbrev pub AllAfter : Key → List Event → Type 0
AllAfter = After key_of

-- each event comes before those behind it
abbrev pub IsAscending : List Event → Type 0
IsAscending = Ascends key_of
