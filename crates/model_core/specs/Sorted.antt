-- Lists in the order of their keys, in which a key may stand twice.
use Rattle.std.specs.Prelude.{◌≡◌, ℕ, ◌≤◌, false, List, [], ◌∷◌, ◌++◌, length, drop, IsPermutation}
use Rattle.event_key.specs.declared.key.Key.{Key}
use Rattle.event_key.specs.Keys.{key_lt}

module _ {X : Type 0} (key : X → Key) where
  -- the first element doesn't come before this key
  abbrev pub Leads : Key → List X → Type 0
  Leads k [] = Unit {0}
  Leads k (x ∷ xs) = key_lt (key x) k ≡ false

  -- no element comes before the one ahead of it
  unfoldable pub AreSorted : List X → Type 0
  AreSorted [] = Unit {0}
  AreSorted (x ∷ xs) = Leads (key x) xs × AreSorted xs

  -- so far these lists are merged: what is left of each comes after what is merged, and nothing is lost
  pub record IsMerging (left right : List X) (i j : ℕ) (merged : List X) : Type 0 where
    pub left_in : i ≤ length left
    pub right_in : j ≤ length right
    pub left_later : AreSorted (merged ++ drop i left)
    pub right_later : AreSorted (merged ++ drop j right)
    pub moves : IsPermutation (left ++ right) (merged ++ (drop i left ++ drop j right))
