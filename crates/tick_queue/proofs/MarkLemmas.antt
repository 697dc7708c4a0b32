-- The bits of slots, as they are set, cleared and found.
use Rattle.std.proofs.Common.{◌≡◌, ◌≢◌, ℕ, ◌+◌, ◌*◌, ◌/◌, ◌%◌, ◌^◌, ◌<◌, List, length, get_or, inl, inr, sym, ◌∙◌, ap, subst, arith, w64}
use Rattle.std.specs.Prelude.{slice_set, bit_and, bit_or}
use Rattle.std.specs.Int.{bit_at, bit_not, trailing_zeros}
use Rattle.std.proofs.lemmas.Bool.{cases_lt, cases_eq}
use Rattle.std.proofs.lemmas.List.{get_or-set_same, get_or-set_other}
use Rattle.std.proofs.lemmas.Nat.Bits.{bit_at_set_same, bit_at_set_other, bit_at_clear_same, bit_at_clear_other, bit_at-trailing_zeros}
use Rattle.tick_queue.specs.Marks.{mark_of, IsFirstMarked}

-- a word is written
mark-same : (words : List ℕ) (slot w : ℕ) → slot / 64 < length words → mark_of (slice_set words (slot / 64) w) slot ≡ bit_at w (slot % 64)
mark-same words slot w lt = ap (λ n. bit_at n (slot % 64)) (get_or-set_same words (slot / 64) w 0 lt)

mark-other : (words : List ℕ) (slot w : ℕ) → slot / 64 < length words
    → ((k : ℕ) → k < 64 → k ≢ slot % 64 → bit_at w k ≡ bit_at (get_or words (slot / 64) 0) k)
    → (i : ℕ) → i ≢ slot → mark_of (slice_set words (slot / 64) w) i ≡ mark_of words i
mark-other words slot w lt others i ne =
    elim (cases_eq (i / 64) (slot / 64)) [
      | inl here ↦
          let k : i % 64 ≢ slot % 64 = λ same. ne (omega arith) in
          let P : ℕ → Type 0 = λ n. bit_at (get_or (slice_set words (slot / 64) w) n 0) (i % 64) ≡ bit_at (get_or words n 0) (i % 64) in
          subst P (sym here) (ap (λ n. bit_at n (i % 64)) (get_or-set_same words (slot / 64) w 0 lt) ∙ others (i % 64) (omega arith) k)
      | inr there ↦ ap (λ n. bit_at n (i % 64)) (get_or-set_other words (slot / 64) (i / 64) w 0 there)
    ]

pub marked-same : (words : List ℕ) (slot : ℕ) → slot / 64 < length words
    → mark_of (slice_set words (slot / 64) (bit_or (get_or words (slot / 64) 0) (1 * 2 ^ (slot % 64) % 2 ^ 64))) slot ≡ 1
marked-same words slot lt = mark-same words slot _ lt ∙ bit_at_set_same w64 (get_or words (slot / 64) 0) (slot % 64) (omega arith)

pub marked-other : (words : List ℕ) (slot : ℕ) → slot / 64 < length words → (i : ℕ) → i ≢ slot
    → mark_of (slice_set words (slot / 64) (bit_or (get_or words (slot / 64) 0) (1 * 2 ^ (slot % 64) % 2 ^ 64))) i ≡ mark_of words i
marked-other words slot lt =
    mark-other words slot _ lt (λ k small ne. bit_at_set_other w64 (get_or words (slot / 64) 0) (slot % 64) (omega arith) k ne)

pub unmarked-same : (words : List ℕ) (slot : ℕ) → slot / 64 < length words
    → mark_of (slice_set words (slot / 64) (bit_and (get_or words (slot / 64) 0) (bit_not w64 (1 * 2 ^ (slot % 64) % 2 ^ 64)))) slot ≡ 0
unmarked-same words slot lt = mark-same words slot _ lt ∙ bit_at_clear_same w64 (get_or words (slot / 64) 0) (slot % 64) (omega arith)

pub unmarked-other : (words : List ℕ) (slot : ℕ) → slot / 64 < length words → (i : ℕ) → i ≢ slot
    → mark_of (slice_set words (slot / 64) (bit_and (get_or words (slot / 64) 0) (bit_not w64 (1 * 2 ^ (slot % 64) % 2 ^ 64)))) i ≡ mark_of words i
unmarked-other words slot lt =
    mark-other words slot _ lt (λ k small ne. bit_at_clear_other w64 (get_or words (slot / 64) 0) (slot % 64) (omega arith) k small ne)

-- the lowest bit of the first word that isn't 0
pub first_is : (words : List ℕ) (level : ℕ) → level < 8 → 0 < get_or words level 0 → get_or words level 0 < 2 ^ 64
    → ((i : ℕ) → i < 64 * level → mark_of words i ≡ 0) → IsFirstMarked words (64 * level + trailing_zeros w64 (get_or words level 0))
first_is words level small some fits before =
    let low = bit_at-trailing_zeros w64 (get_or words level 0) some fits in
    let z : ℕ = trailing_zeros w64 (get_or words level 0) in
    let up : level ≡ (64 * level + z) / 64 = omega (arith, low.0) in
    let digit : z ≡ (64 * level + z) % 64 = omega (arith, low.0) in
    let P : ℕ → Type 0 = λ n. bit_at (get_or words n 0) ((64 * level + z) % 64) ≡ 1 in
    let Q : ℕ → Type 0 = λ n. bit_at (get_or words level 0) n ≡ 1 in
    record {
      small = omega (arith, low.0);
      marked = subst P up (subst Q digit low.1);
      none = λ i lt. elim (cases_lt i (64 * level)) [
        | inl earlier ↦ before i earlier
        | inr here ↦
            let same : level ≡ i / 64 = omega (arith, low.0) in
            let R : ℕ → Type 0 = λ n. bit_at (get_or words n 0) (i % 64) ≡ 0 in
            subst R same (low.2 (i % 64) (omega (arith, low.0)))
      ];
    }
