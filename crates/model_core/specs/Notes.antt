-- A note is the list of its parts.
use Rattle.std.specs.Prelude.{◌≡◌, List, [], ◌∷◌, refl}
use Rattle.model_core.specs.declared.note.Part.{Part}
use Rattle.model_core.specs.declared.note.Parts.{Parts}
use Rattle.model_core.specs.declared.note.Parts.TheVariants.{Silent, One, Two, Three, Four}

abbrev pub parts_of : Parts → List Part
parts_of Silent = []
parts_of (One a) = a ∷ []
parts_of (Two a b) = a ∷ b ∷ []
parts_of (Three a b c) = a ∷ b ∷ c ∷ []
parts_of (Four a b c d) = a ∷ b ∷ c ∷ d ∷ []

-- the note with these parts, the first four where there are more
abbrev pub note_of : List Part → Parts
note_of [] = Silent
note_of (a ∷ []) = One a
note_of (a ∷ b ∷ []) = Two a b
note_of (a ∷ b ∷ c ∷ []) = Three a b c
note_of (a ∷ b ∷ c ∷ d ∷ rest) = Four a b c d

pub note_of-parts_of : (parts : Parts) → note_of (parts_of parts) ≡ parts
note_of-parts_of Silent = refl
note_of-parts_of (One a) = refl
note_of-parts_of (Two a b) = refl
note_of-parts_of (Three a b c) = refl
note_of-parts_of (Four a b c d) = refl
