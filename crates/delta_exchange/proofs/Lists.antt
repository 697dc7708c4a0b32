-- A list of changes and another after it.
use Rattle.std.proofs.Common.{◌≡◌, ℕ, List, [], ◌∷◌, ◌++◌, length, refl, ap, ◌∙◌}
use Rattle.std.proofs.lemmas.List.{length-set}
use Rattle.delta_exchange.specs.Changes.{CellData, cells_after, inverse_of, AllFit, cells_after_all, inverses_of}
use Rattle.delta_exchange.specs.Spares.{spare_after, AllFindRoom, spare_after_all}
use Rattle.delta_exchange.specs.declared.change.Change.{Change}
use Rattle.delta_exchange.specs.declared.change.Change.TheVariants.{Set, Push, Pop, Unpush, Unpop, Flip}

pub cells_after_all_append : (first last : List Change) (cells : CellData) → cells_after_all (first ++ last) cells ≡ cells_after_all last (cells_after_all first cells)
unfolding cells_after_all
cells_after_all_append [] last cells = refl
cells_after_all_append (change ∷ rest) last cells = cells_after_all_append rest last (cells_after change cells)

pub spare_after_all_append : (first last : List Change) (spare : List ℕ) → spare_after_all (first ++ last) spare ≡ spare_after_all last (spare_after_all first spare)
unfolding spare_after_all
spare_after_all_append [] last spare = refl
spare_after_all_append (change ∷ rest) last spare = spare_after_all_append rest last (spare_after change spare)

pub inverses_of_append : (first last : List Change) (cells : CellData) → inverses_of (first ++ last) cells ≡ inverses_of first cells ++ inverses_of last (cells_after_all first cells)
unfolding inverses_of cells_after_all
inverses_of_append [] last cells = refl
inverses_of_append (change ∷ rest) last cells = ap (λ inverses. inverse_of change cells ∷ inverses) (inverses_of_append rest last (cells_after change cells))

pub all_fit_append : (first last : List Change) (cells : CellData) → AllFit first cells → AllFit last (cells_after_all first cells) → AllFit (first ++ last) cells
unfolding AllFit cells_after_all
all_fit_append [] last cells a b = b
all_fit_append (change ∷ rest) last cells a b = (a.0, all_fit_append rest last (cells_after change cells) a.1 b)

pub first_fit : (first last : List Change) (cells : CellData) → AllFit (first ++ last) cells → AllFit first cells
unfolding AllFit
first_fit [] last cells h = tt
first_fit (change ∷ rest) last cells h = (h.0, first_fit rest last (cells_after change cells) h.1)

pub last_fit : (first last : List Change) (cells : CellData) → AllFit (first ++ last) cells → AllFit last (cells_after_all first cells)
unfolding AllFit cells_after_all
last_fit [] last cells h = h
last_fit (change ∷ rest) last cells h = last_fit rest last (cells_after change cells) h.1

pub all_find_room_append : (first last : List Change) (spare : List ℕ) → AllFindRoom first spare → AllFindRoom last (spare_after_all first spare) → AllFindRoom (first ++ last) spare
unfolding AllFindRoom spare_after_all
all_find_room_append [] last spare a b = b
all_find_room_append (change ∷ rest) last spare a b = (a.0, all_find_room_append rest last (spare_after change spare) a.1 b)

pub first_find_room : (first last : List Change) (spare : List ℕ) → AllFindRoom (first ++ last) spare → AllFindRoom first spare
unfolding AllFindRoom
first_find_room [] last spare h = tt
first_find_room (change ∷ rest) last spare h = (h.0, first_find_room rest last (spare_after change spare) h.1)

pub last_find_room : (first last : List Change) (spare : List ℕ) → AllFindRoom (first ++ last) spare → AllFindRoom last (spare_after_all first spare)
unfolding AllFindRoom spare_after_all
last_find_room [] last spare h = h
last_find_room (change ∷ rest) last spare h = last_find_room rest last (spare_after change spare) h.1

pub length_spare_after : (change : Change) (spare : List ℕ) → length (spare_after change spare) ≡ length spare
length_spare_after (Set word value) spare = refl
length_spare_after (Push line value) spare = length-set spare line _
length_spare_after (Pop line) spare = length-set spare line _
length_spare_after (Unpush line) spare = length-set spare line _
length_spare_after (Unpop line value) spare = length-set spare line _
length_spare_after (Flip line place) spare = refl

pub length_spare_after_all : (changes : List Change) (spare : List ℕ) → length (spare_after_all changes spare) ≡ length spare
unfolding spare_after_all
length_spare_after_all [] spare = refl
length_spare_after_all (change ∷ rest) spare = length_spare_after_all rest (spare_after change spare) ∙ length_spare_after change spare

pub length_lines_after : (change : Change) (cells : CellData) → length (cells_after change cells).lines ≡ length cells.lines
length_lines_after (Set word value) cells = refl
length_lines_after (Push line value) cells = length-set cells.lines line _
length_lines_after (Pop line) cells = length-set cells.lines line _
length_lines_after (Unpush line) cells = length-set cells.lines line _
length_lines_after (Unpop line value) cells = length-set cells.lines line _
length_lines_after (Flip line place) cells = length-set cells.lines line _

pub length_lines_after_all : (changes : List Change) (cells : CellData) → length (cells_after_all changes cells).lines ≡ length cells.lines
unfolding cells_after_all
length_lines_after_all [] cells = refl
length_lines_after_all (change ∷ rest) cells = length_lines_after_all rest (cells_after change cells) ∙ length_lines_after change cells
