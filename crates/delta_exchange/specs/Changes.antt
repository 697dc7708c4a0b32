-- Changes of an object's cells: where one fits, what it does, and what it becomes.
use Rattle.std.specs.Prelude.{ℕ, ◌-◌, ◌^◌, ◌<◌, if◌then◌else◌, nat_lt, List, [], ◌∷◌, ◌++◌, length, slice_set, slice_index, slice_index_or, take, drop}
use Rattle.delta_exchange.specs.declared.change.Change.{Change}
use Rattle.delta_exchange.specs.declared.change.Change.TheVariants.{Set, Push, Pop, Unpush, Unpop, Flip}

-- the words of an object, and its lines of values
pub record CellData : Type 0 where
  pub words : List ℕ
  pub lines : List (List ℕ)

-- a line, or no value where there is no such line
abbrev pub line_of : CellData → ℕ → List ℕ
line_of cells line = slice_index_or cells.lines line []

abbrev pub with_line : CellData → ℕ → List ℕ → CellData
with_line cells line values = record cells { lines = slice_set cells.lines line values }

-- a value of 64 bits with each of its bits turned; any other number stays
unfoldable pub flipped : ℕ → ℕ
flipped value = if nat_lt value (2 ^ 64) then 2 ^ 64 - 1 - value else value

-- the values, with the one at a place flipped
abbrev pub with_flipped : List ℕ → ℕ → List ℕ
with_flipped values place = slice_set values place (flipped (slice_index values place))

-- the change names what is there, and takes a value only where there is one
abbrev pub Fits : Change → CellData → Type 0
Fits (Set word value) cells = word < length cells.words
Fits (Push line value) cells = line < length cells.lines
Fits (Pop line) cells = (line < length cells.lines) × (0 < length (line_of cells line))
Fits (Unpush line) cells = (line < length cells.lines) × (0 < length (line_of cells line))
Fits (Unpop line value) cells = line < length cells.lines
Fits (Flip line place) cells = (line < length cells.lines) × (place < length (line_of cells line))

-- the cells after a change
abbrev pub cells_after : Change → CellData → CellData
cells_after (Set word value) cells = record cells { words = slice_set cells.words word value }
cells_after (Push line value) cells = with_line cells line (line_of cells line ++ value ∷ [])
cells_after (Pop line) cells = with_line cells line (drop 1 (line_of cells line))
cells_after (Unpush line) cells = with_line cells line (take (length (line_of cells line) - 1) (line_of cells line))
cells_after (Unpop line value) cells = with_line cells line (value ∷ line_of cells line)
cells_after (Flip line place) cells = with_line cells line (with_flipped (line_of cells line) place)

-- what a change becomes as it is done: the change that takes it back
abbrev pub inverse_of : Change → CellData → Change
inverse_of (Set word value) cells = Set word (slice_index cells.words word)
inverse_of (Push line value) cells = Unpush line
inverse_of (Pop line) cells = Unpop line (slice_index (line_of cells line) 0)
inverse_of (Unpush line) cells = Push line (slice_index (line_of cells line) (length (line_of cells line) - 1))
inverse_of (Unpop line value) cells = Pop line
inverse_of (Flip line place) cells = Flip line place

-- each change of a list fits the cells that those before it leave
unfoldable pub AllFit : List Change → CellData → Type 0
AllFit [] cells = Unit {0}
AllFit (change ∷ rest) cells = Fits change cells × AllFit rest (cells_after change cells)

-- the cells after a list of changes, from the first to the last
unfoldable pub cells_after_all : List Change → CellData → CellData
cells_after_all [] cells = cells
cells_after_all (change ∷ rest) cells = cells_after_all rest (cells_after change cells)

-- the inverses of a list of changes, each at its change's place
unfoldable pub inverses_of : List Change → CellData → List Change
inverses_of [] cells = []
inverses_of (change ∷ rest) cells = inverse_of change cells ∷ inverses_of rest (cells_after change cells)
