-- The words of an object, as they are kept.
use Rattle.std.specs.Prelude.{ℕ, ◌≤◌, List, take, length}
use Rattle.delta_exchange.specs.declared.words.Kept.{Kept}
use Rattle.delta_exchange.specs.declared.words.Kept.TheVariants.{InPlace, Apart}

abbrev pub words_of : Kept → List ℕ
words_of (InPlace count words) = take count words
words_of (Apart list) = list.items

-- as many words as are counted stand in place
abbrev pub IsCounted : Kept → Type 0
IsCounted (InPlace count words) = count ≤ length words
IsCounted (Apart list) = Unit {0}
