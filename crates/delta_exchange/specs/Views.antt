-- What contracts see of cells and of a line of them.
use Rattle.std.specs.Prelude.{ℕ, List}
use Rattle.delta_exchange.specs.Changes.{CellData}

-- values in order, and for how many more there is room
pub record LineView : Type 0 where
  pub values : List ℕ
  pub spare : ℕ

abbrev pub unspared : List ℕ → LineView
unspared values = record { values = values; spare = 0 }

-- what an object's cells hold, and beside each line its spare
pub record CellsView : Type 0 where
  pub contents : CellData
  pub spare : List ℕ
