-- The random words of an object: those of its ChaCha20 stream under the seed's key.
use Rattle.std.specs.Prelude.{◌≡◌, ℕ, ◌+◌, ◌%◌, ◌^◌, ◌<◌, List, ◌++◌, replicate, slice_index}
use Rattle.std.specs.Int.{w64, to_le_bytes}
use Rattle.rand_chacha.specs.ChaCha.{word_at, key_of}

-- the seed's eight little-endian bytes, and 24 zero bytes
abbrev pub seed_bytes : ℕ → List ℕ
seed_bytes seed = to_le_bytes w64 seed ++ replicate 24 0

-- the word at a place of an object's stream; places count modulo 2 ^ 64
unfoldable pub word_of : ℕ → ℕ → ℕ → ℕ
word_of seed object place = word_at 10 (key_of (seed_bytes seed)) object (place % 2 ^ 64)

-- the words from a place on
abbrev pub words_from : ℕ → ℕ → ℕ → ℕ → ℕ
words_from seed object place = λ i. word_of seed object (place + i)

-- what contracts see of a stream: whose words it reads, and where it stands
pub record StreamView : Type 0 where
  pub seed : ℕ
  pub object : ℕ
  pub place : ℕ

-- these are the sixteen words of an object from a place on
abbrev pub AreWords : ℕ → ℕ → ℕ → List ℕ → Type 0
AreWords seed object first words = (i : ℕ) → i < 16 → slice_index words i ≡ word_of seed object (first + i)
