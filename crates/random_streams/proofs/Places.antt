-- Places count modulo 2 ^ 64.
use Rattle.std.proofs.Common.{◌≡◌, ℕ, ◌+◌, ◌-◌, ◌%◌, ◌^◌, ◌<◌, ◌≤◌, ◌∙◌, arith, ap, sym, ⊎_elim}
use Rattle.std.proofs.lemmas.Bool.{cases_lt}
use Rattle.rand_chacha.specs.ChaCha.{word_at, key_of}
use Rattle.random_streams.specs.Words.{StreamView, word_of, words_from, seed_bytes}

-- the word at a place that has gone round
word_of-mod : (seed object place : ℕ) → word_of seed object (place % 2 ^ 64) ≡ word_of seed object place
unfolding word_of
word_of-mod seed object place =
    let once : place % 2 ^ 64 % 2 ^ 64 ≡ place % 2 ^ 64 = omega arith in
    ap (word_at 10 (key_of (seed_bytes seed)) object) once

-- the stream some places on
abbrev pub moved : StreamView → ℕ → StreamView
moved stream places = record stream { place = (stream.place + places) % 2 ^ 64 }

-- the next word of a stream that moved on is the one so many places on
pub word_of-moved : (stream later : StreamView) (places : ℕ) → later ≡ moved stream places
    → word_of later.seed later.object later.place ≡ words_from stream.seed stream.object stream.place places
word_of-moved stream later places is =
    ap (λ s. word_of s.seed s.object s.place) is ∙ word_of-mod stream.seed stream.object (stream.place + places)

-- the words of a stream that moved on are those so many places on
pub words_from-moved : (stream later : StreamView) (places k : ℕ) → later ≡ moved stream places
    → words_from later.seed later.object later.place k ≡ words_from stream.seed stream.object stream.place (places + k)
words_from-moved stream later places k is =
    let on : ((stream.place + places) % 2 ^ 64 + k) % 2 ^ 64 ≡ (stream.place + (places + k)) % 2 ^ 64 = omega arith in
    ap (λ s. word_of s.seed s.object (s.place + k)) is
    ∙ sym (word_of-mod stream.seed stream.object ((stream.place + places) % 2 ^ 64 + k))
    ∙ ap (word_of stream.seed stream.object) on
    ∙ word_of-mod stream.seed stream.object (stream.place + (places + k))

-- a stream that moved on moves on by more
pub moved-more : (stream later : StreamView) (places more : ℕ) → later ≡ moved stream places → moved later more ≡ moved stream (places + more)
moved-more stream later places more is =
    let on : ((stream.place + places) % 2 ^ 64 + more) % 2 ^ 64 ≡ (stream.place + (places + more)) % 2 ^ 64 = omega arith in
    ap (λ s. moved s more) is ∙ ap (λ p. record stream { place = p }) on

-- what holds of the words before a place, and of the next ones of a stream that moved on to it, holds of all of them
pub later_missed : (stream later : StreamView) (bound places more : ℕ) → later ≡ moved stream places
    → ((k : ℕ) → k < places → bound ≤ words_from stream.seed stream.object stream.place k)
    → ((k : ℕ) → k < more → bound ≤ words_from later.seed later.object later.place k)
    → (k : ℕ) → k < places + more → bound ≤ words_from stream.seed stream.object stream.place k
later_missed stream later bound places more is before after k within =
    ⊎_elim (before k)
    (λ reached.
    let missed = after (k - places) (omega arith) in
    let at : places + (k - places) ≡ k = omega arith in
    rw (words_from-moved stream later places (k - places) is, at) at missed)
    (cases_lt k places)

-- what holds of the words before the last, and of the last one, holds of all
pub missed_to_last : (stream : StreamView) (bound count : ℕ)
    → ((k : ℕ) → k + 1 < count → bound ≤ words_from stream.seed stream.object stream.place k)
    → bound ≤ words_from stream.seed stream.object stream.place (count - 1)
    → (k : ℕ) → k < count → bound ≤ words_from stream.seed stream.object stream.place k
missed_to_last stream bound count before last k within =
    ⊎_elim (λ early. before k early)
    (λ late. let at : k ≡ count - 1 = omega arith in rw at last)
    (cases_lt (k + 1) count)
