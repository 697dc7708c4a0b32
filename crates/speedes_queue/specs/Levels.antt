-- Which lengths a level of sorted runs is for, and its slots.
use Rattle.std.specs.Prelude.{◌≡◌, ◌⊎◌, ℕ, ◌+◌, ◌*◌, ◌<◌, ◌≤◌, ◌^◌}

-- the first level is for lengths below 64; each further one begins at a power of eight and ends before the next one
pub record IsOfLevel (len level : ℕ) : Type 0 where
  pub reaches : (level ≡ 0) ⊎ (8 ^ (level + 1) ≤ len)
  pub below : len < 8 ^ (level + 2)

-- the first slot of the level that this length belongs to
pub record IsFirstSlotFor (len slot : ℕ) : Type 0 where
  pub level : ℕ
  pub of_level : IsOfLevel len level
  pub is : slot ≡ 3 * level

-- one of its three slots
pub record IsSlotFor (len slot : ℕ) : Type 0 where
  pub first : ℕ
  pub is_first : IsFirstSlotFor len first
  pub from : first ≤ slot
  pub upto : slot < first + 3
