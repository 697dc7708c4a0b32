-- The state of the cipher by rows: four rows of four words.
use Rattle.std.specs.Prelude.{ℕ, List, [], ◌∷◌, slice_index}
use Rattle.random_streams.specs.declared.block.Rows.{Rows}

-- a row of these words
abbrev pub row_of : ℕ → ℕ → ℕ → ℕ → List ℕ
row_of w x y z = w ∷ x ∷ y ∷ z ∷ []

-- the sixteen words of a state, row after row
abbrev pub state_of : Rows → List ℕ
state_of rows =
    slice_index rows.a 0 ∷ slice_index rows.a 1 ∷ slice_index rows.a 2 ∷ slice_index rows.a 3
    ∷ slice_index rows.b 0 ∷ slice_index rows.b 1 ∷ slice_index rows.b 2 ∷ slice_index rows.b 3
    ∷ slice_index rows.c 0 ∷ slice_index rows.c 1 ∷ slice_index rows.c 2 ∷ slice_index rows.c 3
    ∷ slice_index rows.d 0 ∷ slice_index rows.d 1 ∷ slice_index rows.d 2 ∷ slice_index rows.d 3 ∷ []
