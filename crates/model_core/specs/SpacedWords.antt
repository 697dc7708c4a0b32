-- Words between spaces.
use Rattle.std.specs.Prelude.{◌≡◌, ℕ, ◌≤◌, List, Option, ◌++◌, codes, decimal, length, take, unwrap_or}
use Rattle.model_core.specs.Words.{record_word}
use Rattle.model_core.specs.declared.words.Spaced.{Spaced}

-- a word as it is told: its text, or its number where it has none
abbrev pub told_word : Option (List ℕ) → ℕ → List ℕ
told_word text number = unwrap_or text (decimal number)

abbrev pub between_spaces : List ℕ → List ℕ
between_spaces text = codes " " ++ (text ++ codes " ")

-- these bytes begin with a word of records between spaces
pub record IsSpaced (number : ℕ) (spaced : Spaced) : Type 0 where
  pub text : take spaced.count spaced.bytes ≡ between_spaces (told_word (record_word number) number)
  pub size : length spaced.bytes ≡ 8
  pub few : spaced.count ≤ 8
