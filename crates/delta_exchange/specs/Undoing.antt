-- Undoing a list of changes, which exchanges from the last to the first, so it is done as its reverse; and what that gives back.
use Rattle.std.specs.Prelude.{◌≡◌, ℕ, ◌++◌, List, reverse}
use Rattle.delta_exchange.specs.Changes.{CellData, AllFit, cells_after_all, inverses_of}
use Rattle.delta_exchange.specs.Spares.{AllFindRoom, spare_after_all, HaveRoom, NoneFell, NameLines, HasSpares}
use Rattle.delta_exchange.specs.Views.{CellsView}
use Rattle.delta_exchange.specs.declared.change.Change.{Change}

-- the inverses can be undone on the later cells, which gives back the changes and the earlier cells
pub record UndoRestores (inverses : List Change) (later : CellsView) (changes : List Change) (earlier : CellsView) : Type 0 where
  pub fit : AllFit (reverse inverses) later.contents
  pub room : AllFindRoom (reverse inverses) later.spare
  pub contents : cells_after_all (reverse inverses) later.contents ≡ earlier.contents
  pub spare : spare_after_all (reverse inverses) later.spare ≡ earlier.spare
  pub originals : reverse (inverses_of (reverse inverses) later.contents) ≡ changes

-- the cells after a list of changes, with their spares
abbrev pub view_after_all : List Change → CellsView → CellsView
view_after_all changes cells = record { contents = cells_after_all changes cells.contents; spare = spare_after_all changes cells.spare }

-- the changes can be done on the cells
abbrev pub CanBeDone : List Change → CellsView → Type 0
CanBeDone changes cells = HasSpares cells × AllFit changes cells.contents × AllFindRoom changes cells.spare

-- undoing the inverses of a list gives back the list and the cells before it
abbrev pub UndoingRestores : Type 0
UndoingRestores = (changes : List Change) (cells : CellsView) → CanBeDone changes cells
    → UndoRestores (inverses_of changes cells.contents) (view_after_all changes cells) changes cells

-- undoing the inverses of the last changes of a list gives back those changes and the cells after the first ones
abbrev pub UndoingTheLastRestores : Type 0
UndoingTheLastRestores = (first last : List Change) (cells : CellsView) → CanBeDone (first ++ last) cells
    → UndoRestores (inverses_of last (cells_after_all first cells.contents)) (view_after_all (first ++ last) cells) last (view_after_all first cells)

-- undoing the inverses of the first changes of a list, where no others were done, gives back those changes and the cells
abbrev pub UndoingTheFirstRestores : Type 0
UndoingTheFirstRestores = (first last : List Change) (cells : CellsView) → CanBeDone (first ++ last) cells
    → UndoRestores (inverses_of first cells.contents) (view_after_all first cells) first cells

-- room for all that goes in at a line is room for each change at its turn
abbrev pub RoomIsEnough : Type 0
RoomIsEnough = (changes : List Change) (spare : List ℕ) → HaveRoom changes spare → AllFindRoom changes spare

-- changes that find room find it where no spare is less
abbrev pub MoreSpareIsEnough : Type 0
MoreSpareIsEnough = (changes : List Change) (before after : List ℕ) → NoneFell before after → AllFindRoom changes before → AllFindRoom changes after

-- spares of which none is less stay so
abbrev pub MoreSpareStays : Type 0
MoreSpareStays = (changes : List Change) (before after : List ℕ) → NoneFell before after → NoneFell (spare_after_all changes before) (spare_after_all changes after)

-- changes that fit name lines that are there
abbrev pub FittingNamesLines : Type 0
FittingNamesLines = (changes : List Change) (cells : CellData) → AllFit changes cells → NameLines changes cells
