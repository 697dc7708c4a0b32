-- The words of a block, by rows.
use Rattle.std.proofs.Common.{◌≡◌, ℕ, ◌+◌, ◌-◌, ◌*◌, ◌/◌, ◌%◌, ◌^◌, ◌<◌, List, slice_index, arith, ap, subst, ◌∙◌}
use Rattle.rand_chacha.proofs.LaneLemmas.{below_four}
use Rattle.rand_chacha.specs.Block.{block_word}
use Rattle.rand_chacha.specs.ChaCha.{key_of}
use Rattle.random_streams.specs.Words.{word_of, words_from, seed_bytes, AreWords}

-- what holds of each of the sixteen words
pub below_sixteen : (P : ℕ → Type 0) → P 0 → P 1 → P 2 → P 3 → P 4 → P 5 → P 6 → P 7
    → P 8 → P 9 → P 10 → P 11 → P 12 → P 13 → P 14 → P 15 → (k : ℕ) → k < 16 → P k
below_sixteen P a0 a1 a2 a3 b0 b1 b2 b3 c0 c1 c2 c3 d0 d1 d2 d3 k h =
    let place : 4 * (k / 4) + k % 4 ≡ k = omega arith in
    subst P place (below_four (λ row. (col : ℕ) → col < 4 → P (4 * row + col))
    (below_four _ a0 a1 a2 a3) (below_four _ b0 b1 b2 b3) (below_four _ c0 c1 c2 c3) (below_four _ d0 d1 d2 d3)
    (k / 4) (omega arith) (k % 4) (omega arith))

-- the words of the block about a place are the sixteen from its first place on
pub AreWords-block : (seed object place : ℕ) (words : List ℕ) → place < 2 ^ 64
    → ((k : ℕ) → k < 16 → slice_index words k ≡ block_word 10 (key_of (seed_bytes seed)) (place / 16) object k)
    → AreWords seed object (place - place % 16) words
unfolding word_of
AreWords-block seed object place words below made k within =
    let block : (place - place % 16 + k) % 2 ^ 64 / 16 ≡ place / 16 = omega arith in
    let word : (place - place % 16 + k) % 2 ^ 64 % 16 ≡ k = omega arith in
    rw (block, word) (made k within)

-- the words of the block about a place are those of the block about another place of it
pub AreWords-about : (seed object place later : ℕ) (words : List ℕ) → place / 16 ≡ later / 16
    → AreWords seed object (place - place % 16) words → AreWords seed object (later - later % 16) words
AreWords-about seed object place later words same are =
    let first : place - place % 16 ≡ later - later % 16 = omega arith in
    rw first at are

-- the words of the block about a place, from that place on
pub AreWords-from : (seed object place : ℕ) (words : List ℕ) → AreWords seed object (place - place % 16) words
    → (k : ℕ) → place % 16 + k < 16 → slice_index words (place % 16 + k) ≡ words_from seed object place k
AreWords-from seed object place words are k within =
    let at : place - place % 16 + (place % 16 + k) ≡ place + k = omega arith in
    are (place % 16 + k) within ∙ ap (word_of seed object) at
