-- What an event of a shop tells, and the cells of an object.
use Rattle.std.specs.Prelude.{ℕ, List, [], ◌∷◌}
use Rattle.delta_exchange.specs.Changes.{CellData}
use Rattle.model_core.specs.declared.note.Note.{Note}
use Rattle.model_core.specs.declared.note.Part.{Part}
use Rattle.sim_spec.specs.State.{State, object_at}

-- the first word that a note tells; no word is 0
abbrev pub word_told : Note → ℕ
word_told [] = 0
word_told (part ∷ rest) = part.word

-- the two numbers that it tells
abbrev pub first_told : Note → ℕ
first_told [] = 0
first_told (part ∷ rest) = part.a

abbrev pub second_told : Note → ℕ
second_told [] = 0
second_told (part ∷ rest) = part.b

abbrev pub cells_at : State → ℕ → CellData
cells_at s i = (object_at s.objects i).cells

-- what it tells behind that
abbrev pub rest_told : Note → List Part
rest_told [] = []
rest_told (part ∷ rest) = rest
