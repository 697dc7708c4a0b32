-- How many events nodes have, and the move that follows.
use Rattle.std.specs.Prelude.{◌≡◌, ◌⊎◌, ℕ, ◌+◌, ◌<◌, ◌≤◌, List, [], ◌∷◌, length, slice_get, Some}
use Rattle.std.specs.List.{AllByRecursion}
use Rattle.node_core.specs.Homes.{IsLeastObject, objects_of}
use Rattle.node_core.specs.Nodes.{NodeView}
use Rattle.cycle_core.specs.Worlds.{WorldView}
use Rattle.object_moves.specs.declared.moves.Move.{Move}
use Rattle.object_moves.specs.Moves.{Exists}

module _ {M : Type 0} where
  -- how many events a node has
  abbrev pub load : NodeView M → ℕ
  load n = length n.processed + length n.waiting

-- as many as any
abbrev pub most_of : ℕ → ℕ → Type 0
most_of found other = other ≤ found

-- as few as any
abbrev pub least_of : ℕ → ℕ → Type 0
least_of found other = found ≤ other

-- the other has more, or fewer
abbrev pub more_of : ℕ → ℕ → Type 0
more_of found other = found < other

abbrev pub fewer_of : ℕ → ℕ → Type 0
fewer_of found other = other < found

module _ {M : Type 0} where
  -- the next node is picked where it is better, else the one that was found
  abbrev pub Picks : (ℕ → ℕ → Type 0) → (ℕ → ℕ → Type 0) → List (NodeView M) → ℕ → ℕ → ℕ → Type 0
  Picks better best nodes found next picked =
      (x y : NodeView M) → slice_get nodes found ≡ Some x → slice_get nodes next ≡ Some y
      → (better (load x) (load y) × (picked ≡ next)) ⊎ (best (load x) (load y) × (picked ≡ found))

  -- the node has the most or the fewest events, and those before it don't
  pub record IsFirstLoad (best : ℕ → ℕ → Type 0) (nodes : List (NodeView M)) (number : ℕ) : Type 0 where
    pub node : NodeView M
    pub at : slice_get nodes number ≡ Some node
    pub all : (other : ℕ) (n : NodeView M) → slice_get nodes other ≡ Some n → best (load node) (load n)
    pub first : (other : ℕ) (n : NodeView M) → other < number → slice_get nodes other ≡ Some n → best (load n) (load node) → ⊥

  -- the least object of the first node with the most events goes to the first with the fewest, where they differ by two
  -- and it isn't alone
  pub record IsPlanByLoad (w : WorldView M) (moves : List Move) : Type 0 where
    pub full : ℕ
    pub empty : ℕ
    pub full_is : IsFirstLoad most_of w.nodes full
    pub empty_is : IsFirstLoad least_of w.nodes empty
    pub none : (load full_is.node < load empty_is.node + 2) ⊎ (objects_of w.homes full < 2) → moves ≡ []
    pub one : load empty_is.node + 2 ≤ load full_is.node → 2 ≤ objects_of w.homes full
        → (object : ℕ) × IsLeastObject w.homes full (Some object) × (moves ≡ record { object = object; node = empty } ∷ [])
    pub exist : AllByRecursion (Exists w.homes) moves
