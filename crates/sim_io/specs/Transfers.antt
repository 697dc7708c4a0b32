-- What a whole read takes of the bytes that are left, and a whole write adds to those that were taken.
use Rattle.std.specs.Prelude.{◌≡◌, ℕ, ◌≤◌, List, ◌++◌, length, take, drop, Option, None, Some, ⊤}
use Rattle.std.specs.Io.KnownBytes.{Consumes}
use Rattle.sim_io.specs.Taken.{Taken, Appends}

-- the first bytes of what was left were taken, so many at most, and the rest is left
abbrev pub TakesUpTo : ℕ → Option (List ℕ) → Option (List ℕ) → List ℕ → Type 0
TakesUpTo most None new bytes = ⊤
TakesUpTo most (Some left) None bytes = ⊥
TakesUpTo most (Some left) (Some rest) bytes = (bytes ≡ take most left) × (rest ≡ drop most left)

-- some bytes were taken from the front of what was left, so many at most, and no others
abbrev pub TakesSome : ℕ → Option (List ℕ) → Option (List ℕ) → Type 0
TakesSome most old new = (prefix : List ℕ) × (length prefix ≤ most) × Consumes old new prefix

-- of the bytes that were taken a prefix was handed on, and the rest of them was not
abbrev pub KeepsBackSome : Taken → Taken → Type 0
KeepsBackSome told handed = (rest : List ℕ) × Appends handed told rest

-- some prefix of these bytes was added, and no others
abbrev pub AppendsPrefix : Taken → Taken → List ℕ → Type 0
AppendsPrefix old new bytes = (prefix back : List ℕ) × (bytes ≡ prefix ++ back) × Appends old new prefix

-- a prefix of these bytes was added, and the rest of them is kept
abbrev pub AppendsSome : Taken → Taken → List ℕ → List ℕ → Type 0
AppendsSome old new bytes rest = (prefix : List ℕ) × Appends old new prefix × (bytes ≡ prefix ++ rest)
