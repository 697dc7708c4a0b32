-- The digits of small numbers, each in a chunk of four bytes.
use Rattle.std.specs.Prelude.{◌≡◌, ℕ, ◌+◌, ◌/◌, ◌%◌, ◌<◌, List, [], ◌∷◌, length, take, decimal, slice_index, slice_index_or}

-- the digits of a number below 1,000, and in the last byte how many there are
pub record HoldsDigits (number : ℕ) (chunk : List ℕ) : Type 0 where
  pub size : length chunk ≡ 4
  pub count : slice_index chunk 3 ≡ length (decimal number)
  pub few : length (decimal number) < 4
  pub digits : take (length (decimal number)) chunk ≡ decimal number

-- the three digits of a number below 1,000, with zeros before it
abbrev pub three_digits : ℕ → List ℕ
three_digits number = (48 + number / 100) ∷ (48 + number / 10 % 10) ∷ (48 + number % 10) ∷ []

pub record HoldsThree (number : ℕ) (chunk : List ℕ) : Type 0 where
  pub size : length chunk ≡ 4
  pub digits : take 3 chunk ≡ three_digits number

-- a chunk for each number below 1,000
pub record AreTables (short three : List (List ℕ)) : Type 0 where
  pub shorts : (number : ℕ) → number < 1000 → HoldsDigits number (slice_index_or short number [])
  pub threes : (number : ℕ) → number < 1000 → HoldsThree number (slice_index_or three number [])
  pub short_size : length short ≡ 1000
  pub three_size : length three ≡ 1000
