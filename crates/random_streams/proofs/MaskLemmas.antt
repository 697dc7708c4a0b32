-- The bits of a mask, one for each lane of a comparison.
use Rattle.std.proofs.Common.{◌≡◌, ℕ, zero, suc, ◌+◌, ◌-◌, ◌*◌, ◌/◌, ◌^◌, ◌<◌, ◌≤◌, ◌∙◌, Bool, true, false, not, min, List, [], ◌∷◌, map, drop, length, get_or, arith, ap, sym, ⊎_elim}
use Rattle.std.specs.Int.Count.{count_trailing_zeros, trailing_of_zero}
use Rattle.std.specs.List.{prefix_len}
use Rattle.std.specs.Simd.Lanes.{mask_l, chunk}
use Rattle.std.proofs.Math.Nat.{div-div-eq-div-mul, pow-suc}
use Rattle.std.proofs.lemmas.Bool.{cases_lt}
use Rattle.std.proofs.lemmas.List.{drop-map, take_all, length-drop}
use Rattle.std.proofs.lemmas.Simd.{leading_from_mask_l, trailing_mask_l, run_in_chunk_fails, run_in_chunk_stops}

-- a mask without its lowest bit is that of the lanes after the first
half_mask : (b : Bool) (bs : List Bool) → mask_l (b ∷ bs) / 2 ≡ mask_l bs
half_mask true bs = omega arith
half_mask false bs = omega arith

-- the bits of a mask from a place on are those of the lanes from it on
pub mask_l-drop : (i : ℕ) (bs : List Bool) → mask_l bs / 2 ^ i ≡ mask_l (drop i bs)
mask_l-drop zero bs = omega arith
mask_l-drop (suc i) [] = omega arith
mask_l-drop (suc i) (b ∷ bs) =
    let mask = mask_l (b ∷ bs) in
    let twice : 2 ^ suc i ≡ 2 * 2 ^ i = omega (arith, pow-suc 2 i) in
    ap (λ n. mask / n) twice ∙ sym (div-div-eq-div-mul mask 2 (2 ^ i)) ∙ ap (λ n. n / 2 ^ i) (half_mask b bs) ∙ mask_l-drop i bs

-- of so many lanes from a place on, those before one pass not, and it passes, unless it is past the last
pub record IsFirstPass (p : ℕ → Bool) (xs : List ℕ) (i count first : ℕ) : Type 0 where
  pub fails : (k : ℕ) → k < first → p (get_or xs (i + k) 0) ≡ false
  pub stops : first < count → p (get_or xs (i + first) 0) ≡ true

-- it is found by counting
counted_pass : (p : ℕ → Bool) (xs : List ℕ) (i count : ℕ) → i + count ≤ length xs
    → IsFirstPass p xs i count (min (prefix_len (λ x. not (p x)) (drop i xs)) count)
counted_pass p xs i count within =
    let left = length xs - i in
    let r = prefix_len (λ x. not (p x)) (drop i xs) in
    let whole : chunk i left xs ≡ drop i xs = take_all left (drop i xs) (omega (arith, length-drop i xs)) in
    let counted : r ≡ prefix_len (λ x. not (p x)) (chunk i left xs) = ap (prefix_len (λ x. not (p x))) (sym whole) in
    record {
      fails = λ k h. run_in_chunk_fails p xs i left r 0 (omega arith) counted (i + k) (omega arith) (omega arith);
      stops = λ h.
          let first : min r count ≡ r = omega arith in
          rw first (run_in_chunk_stops p xs i left r 0 (omega arith) counted (omega arith));
    }

-- it is where the mask has its lowest bit from the place on
pub first_pass : (p : ℕ → Bool) (xs : List ℕ) (i count : ℕ) → i + count ≤ length xs → length xs ≤ 64
    → IsFirstPass p xs i count (min (count_trailing_zeros 64 (mask_l (map p xs) / 2 ^ i)) count)
first_pass p xs i count within few =
    let rest = drop i xs in
    let r = prefix_len (λ x. not (p x)) rest in
    let bits = mask_l (map p rest) in
    let mask : mask_l (map p xs) / 2 ^ i ≡ bits = mask_l-drop i (map p xs) ∙ ap mask_l (drop-map p i xs) in
    let found : min (count_trailing_zeros 64 bits) count ≡ min r count = ⊎_elim
    (λ (some : 0 < bits). ap (λ n. min n count) (trailing_mask_l p 64 rest (omega (arith, length-drop i xs)) some))
    (λ (none : bits ≤ 0).
    let zeros : bits ≡ 0 = omega arith in
    let all = leading_from_mask_l p rest zeros in
    let most = ap (count_trailing_zeros 64) zeros ∙ trailing_of_zero 64 in
    omega (arith, all, most, length-drop i xs))
    (cases_lt 0 bits) in
    rw (mask, found) (counted_pass p xs i count within)
