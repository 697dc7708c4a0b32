-- Homes that are shared.
use Rattle.std.specs.Prelude.{ℕ}
use Rattle.node_core.specs.Homes.{HomesView}

-- homes, and how many times more they are shared
pub record CopiesView : Type 0 where
  pub homes : HomesView
  pub left : ℕ
