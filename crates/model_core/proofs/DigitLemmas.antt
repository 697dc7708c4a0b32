-- The digits of numbers, and tables of them.
use Rattle.std.proofs.Common.{◌≡◌, ℕ, ◌+◌, ◌-◌, ◌/◌, ◌%◌, ◌<◌, ◌≤◌, ◌^◌, List, [], ◌∷◌, ◌++◌, length, get_or, take, drop, ap, ◌∙◌, refl, sym, subst, arith, append_assoc, take-take, take_at}
use Rattle.std.proofs.Math.ListN.{set}
use Rattle.std.specs.Prelude.{decimal}
use Rattle.std.proofs.lemmas.List.{length-set, get_or-set_same, take-set-le, get_or_append_left, get_or_push, get_or_read}
use Rattle.std.proofs.lemmas.Fmt.{length-decimal-le, decimal_step}
use borrow.Author.Count.{below_more}
use Rattle.model_core.specs.DigitTables.{HoldsDigits, three_digits}

-- digits that were written before the fourth place, moved to the front, and their number
pub chunk_holds : (number start k : ℕ) (bytes chunk rest : List ℕ) → number < 1000 → start + length (decimal number) ≡ 4 → drop start bytes ≡ decimal number ++ rest
    → chunk ≡ take k (drop start bytes) → k ≡ 4 → length chunk ≡ 4 → HoldsDigits number (set chunk 3 (4 - start))
chunk_holds number start k bytes chunk rest small starts written is four size =
    let few = length-decimal-le 3 number (omega arith) (omega arith) (omega arith) in
    let last : get_or (set chunk 3 (4 - start)) 3 0 ≡ 4 - start = get_or-set_same chunk 3 (4 - start) 0 (omega arith) in
    record {
      size = length-set chunk 3 (4 - start) ∙ size;
      count = omega arith;
      few = omega arith;
      digits = take-set-le (length (decimal number)) chunk 3 (4 - start) (omega arith) ∙ ap (take (length (decimal number))) is
          ∙ take-take (length (decimal number)) k (drop start bytes) (omega arith) ∙ ap (take (length (decimal number))) written
          ∙ take_at (decimal number) rest (length (decimal number)) refl;
    }

-- one chunk more
pub chunks_more : (P : ℕ → List ℕ → Type 0) (chunks : List (List ℕ)) (chunk : List ℕ) (n : ℕ) → length chunks ≡ n → ((k : ℕ) → k < n → P k (get_or chunks k [])) → P n chunk
    → (k : ℕ) → k < n + 1 → P k (get_or (chunks ++ chunk ∷ []) k [])
chunks_more P chunks chunk n size before here =
    below_more (λ k. P k (get_or (chunks ++ chunk ∷ []) k [])) n (λ k lt. rw (get_or_append_left chunks (chunk ∷ []) [] k (omega arith)) (before k lt))
    (rw (get_or_push chunks chunk [] n size) here)

-- a number of more than three digits, by its last three
pub decimal_three : (n : ℕ) → 1000 ≤ n → n < 2 ^ 64 → decimal n ≡ decimal (n / 1000) ++ three_digits (n % 1000)
decimal_three n lo hi =
    let a : n / 10 / 10 / 10 ≡ n / 1000 = omega arith in
    let b : n / 10 / 10 % 10 ≡ n % 1000 / 100 = omega arith in
    let c : n / 10 % 10 ≡ n % 1000 / 10 % 10 = omega arith in
    let d : n % 10 ≡ n % 1000 % 10 = omega arith in
    rw (decimal_step n (omega arith) hi, decimal_step (n / 10) (omega arith) (omega arith), decimal_step (n / 10 / 10) (omega arith) (omega arith), append_assoc, append_assoc, a, b, c, ← d) refl

-- what is true of a chunk of a table is true of it where it is read
pub chunk-of : (H : ℕ → List ℕ → Type 0) (table : List (List ℕ)) (number : ℕ) (chunk : List ℕ) → length table ≡ 1000 → number < 1000 → H number (get_or table number []) → chunk ≡ get_or table number chunk → H number chunk
chunk-of H table number chunk size few holds at = subst (H number) (sym (get_or_read table number chunk (omega (arith, size)) at [])) holds
