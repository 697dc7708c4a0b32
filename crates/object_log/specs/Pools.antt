-- What is kept to be used again.
use Rattle.std.specs.Prelude.{◌≡◌, ◌+◌, ◌≤◌, ℕ, Option, Some, None, length, vec_capacity}
use Rattle.std.specs.declared.vec.Vec.{Vec}

-- how many cells of events, how many spent entries, and how many lists of changes are handed out
pub record PoolView : Type 0 where
  pub events : ℕ
  pub entries : ℕ
  pub lent : ℕ

-- how many lists of changes are handed out, and how many are kept
pub record UndoListsView : Type 0 where
  pub lent : ℕ
  pub kept : ℕ

module _ {X Z : Type 0} where
  -- how many are in a list, if there is one
  abbrev pub kept_in : Option (Vec X Z) → ℕ
  kept_in None = 0
  kept_in (Some lists) = length lists.items

  -- each of those that are handed out finds room when it comes back
  abbrev pub FindRoom : Option (Vec X Z) → ℕ → Type 0
  FindRoom None lent = lent ≡ 0
  FindRoom (Some lists) lent = length lists.items + lent ≤ vec_capacity lists
