-- Texts that are written at places of bytes.
use Rattle.std.specs.Prelude.{◌≡◌, ℕ, ◌+◌, List, ◌++◌, length, take}

-- a text was written at a place, up to the place where it ends, and what stands before it stays
pub record WritesAt (old new : List ℕ) (at end : ℕ) (text : List ℕ) : Type 0 where
  pub ends : end ≡ at + length text
  pub written : take end new ≡ take at old ++ text
