-- The least of what nodes have.
use Rattle.std.specs.Prelude.{◌≡◌, ℕ, ◌<◌, false, List, slice_get, Option, Some, None, if◌then◌else◌}
use Rattle.event_key.specs.declared.key.Key.{Key}
use Rattle.event_key.specs.Keys.{key_lt}

-- the one of the lesser key, as far as they are there
abbrev pub lesser_by : {X : Type 0} → (X → Key) → Option X → Option X → Option X
lesser_by key None next = next
lesser_by key (Some x) None = Some x
lesser_by key (Some x) (Some y) = if key_lt (key y) (key x) then Some y else Some x

-- what a node has, and what it may have
module _ {N X : Type 0} (key : X → Key) (Has May : N → X → Type 0) where
  -- the least that a node has
  abbrev pub IsLeastAt : N → Option X → Type 0
  IsLeastAt n None = (x : X) → May n x → ⊥
  IsLeastAt n (Some least) = Has n least × ((x : X) → May n x → key_lt (key x) (key least) ≡ false)

  -- the least that the first so many nodes have
  abbrev pub IsLeastUpto : ℕ → List N → Option X → Type 0
  IsLeastUpto place nodes None = (number : ℕ) (n : N) → number < place → slice_get nodes number ≡ Some n → (x : X) → May n x → ⊥
  IsLeastUpto place nodes (Some least) =
      ((number : ℕ) × (n : N) × (number < place) × (slice_get nodes number ≡ Some n) × Has n least)
      × ((number : ℕ) (n : N) → number < place → slice_get nodes number ≡ Some n → (x : X) → May n x → key_lt (key x) (key least) ≡ false)
