-- The spares of an object's lines: for how many more values each has room for certain.
use Rattle.std.specs.Prelude.{◌≡◌, ℕ, ◌+◌, ◌-◌, ◌<◌, ◌≤◌, Bool, false, ◌==◌, List, [], ◌∷◌, length, slice_set, slice_index, All, count_by}
use Rattle.delta_exchange.specs.Changes.{CellData}
use Rattle.delta_exchange.specs.Views.{CellsView}
use Rattle.delta_exchange.specs.declared.change.Change.{Change}
use Rattle.delta_exchange.specs.declared.change.Change.TheVariants.{Set, Push, Pop, Unpush, Unpop, Flip}

-- a value that goes in takes one place of its line's spare
abbrev pub FindsRoom : Change → List ℕ → Type 0
FindsRoom (Set word value) spare = Unit {0}
FindsRoom (Push line value) spare = 0 < slice_index spare line
FindsRoom (Pop line) spare = Unit {0}
FindsRoom (Unpush line) spare = Unit {0}
FindsRoom (Unpop line value) spare = 0 < slice_index spare line
FindsRoom (Flip line place) spare = Unit {0}

-- the spares after a change: a value that goes out gives its place back
abbrev pub spare_after : Change → List ℕ → List ℕ
spare_after (Set word value) spare = spare
spare_after (Push line value) spare = slice_set spare line (slice_index spare line - 1)
spare_after (Pop line) spare = slice_set spare line (slice_index spare line + 1)
spare_after (Unpush line) spare = slice_set spare line (slice_index spare line + 1)
spare_after (Unpop line value) spare = slice_set spare line (slice_index spare line - 1)
spare_after (Flip line place) spare = spare

-- each change of a list finds room in the spares that those before it leave
unfoldable pub AllFindRoom : List Change → List ℕ → Type 0
AllFindRoom [] spare = Unit {0}
AllFindRoom (change ∷ rest) spare = FindsRoom change spare × AllFindRoom rest (spare_after change spare)

-- the spares after a list of changes, from the first to the last
unfoldable pub spare_after_all : List Change → List ℕ → List ℕ
spare_after_all [] spare = spare
spare_after_all (change ∷ rest) spare = spare_after_all rest (spare_after change spare)

-- whether the change puts a value in at the line
abbrev pub puts_in_at : Change → ℕ → Bool
puts_in_at (Set word value) line = false
puts_in_at (Push at value) line = at == line
puts_in_at (Pop at) line = false
puts_in_at (Unpush at) line = false
puts_in_at (Unpop at value) line = at == line
puts_in_at (Flip at place) line = false

-- how many values a list of changes puts in at a line
abbrev pub room_for : List Change → ℕ → ℕ
room_for changes line = count_by (λ change. puts_in_at change line) changes

-- the spare of each line is at least what the changes put in there
abbrev pub HaveRoom : List Change → List ℕ → Type 0
HaveRoom changes spare = (line : ℕ) → room_for changes line ≤ slice_index spare line

-- the line that a change names is there
abbrev pub NamesLine : Change → CellData → Type 0
NamesLine (Set word value) cells = Unit {0}
NamesLine (Push line value) cells = line < length cells.lines
NamesLine (Pop line) cells = line < length cells.lines
NamesLine (Unpush line) cells = line < length cells.lines
NamesLine (Unpop line value) cells = line < length cells.lines
NamesLine (Flip line place) cells = line < length cells.lines

-- each line that the changes name is there
abbrev pub NameLines : List Change → CellData → Type 0
NameLines changes cells = All (λ change. NamesLine change cells) changes

-- the lines have their spares, and none has less than it had
pub record NoneFell (before after : List ℕ) : Type 0 where
  pub as_many : length after ≡ length before
  pub no_less : (line : ℕ) → slice_index before line ≤ slice_index after line

-- each line has its spare
abbrev pub HasSpares : CellsView → Type 0
HasSpares cells = length cells.spare ≡ length cells.contents.lines
