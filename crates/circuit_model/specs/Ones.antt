-- Which pins are 1, and how many are.
use Rattle.std.proofs.Common.{◌≡◌, ℕ, zero, suc, ◌+◌, ◌<◌, ◌≤◌, Bool, true, false, cond, List, [], ◌∷◌, length, take, refl, ap, ◌∙◌, arith}
use Rattle.std.specs.Prelude.{◌==◌, ◌&&◌, ◌||◌, nat_lt, slice_index, slice_set}
use Rattle.std.specs.List.{filter, list_all, list_any}
use Rattle.std.proofs.lemmas.Bool.Decides.{nat_tests}
use Rattle.circuit_model.specs.Gates.{is_one, ones_in, AreBits}

pub ones_in-≤ : (levels : List ℕ) → ones_in levels ≤ length levels
ones_in-≤ [] = omega arith
ones_in-≤ (level ∷ levels) = by (is_one level) (ones_in-≤ levels)
  where
    by : (one : Bool) → ones_in levels ≤ length levels → length (cond one (level ∷ filter is_one levels) (filter is_one levels)) ≤ length (level ∷ levels)
    by true rest = omega arith
    by false rest = omega arith

-- all are 1 where as many are
pub list_all-is_one : (levels : List ℕ) → list_all is_one levels ≡ (ones_in levels == length levels)
list_all-is_one [] = refl
list_all-is_one (level ∷ levels) = by (is_one level) (list_all-is_one levels) (ones_in-≤ levels)
  where
    by : (one : Bool) → list_all is_one levels ≡ (ones_in levels == length levels) → ones_in levels ≤ length levels
        → (one && list_all is_one levels) ≡ (length (cond one (level ∷ filter is_one levels) (filter is_one levels)) == length (level ∷ levels))
    by true rest few = grind (arith, nat_tests)
    by false rest few = grind (arith, nat_tests)

-- some are 1 where more than none are
pub list_any-is_one : (levels : List ℕ) → list_any is_one levels ≡ nat_lt 0 (ones_in levels)
list_any-is_one [] = refl
list_any-is_one (level ∷ levels) = by (is_one level) (list_any-is_one levels)
  where
    by : (one : Bool) → list_any is_one levels ≡ nat_lt 0 (ones_in levels)
        → (one || list_any is_one levels) ≡ nat_lt 0 (length (cond one (level ∷ filter is_one levels) (filter is_one levels)))
    by true rest = grind (arith, nat_tests)
    by false rest = rest

pub AreBits-tail : (level : ℕ) (levels : List ℕ) → AreBits (level ∷ levels) → AreBits levels
AreBits-tail level levels bits i d within = bits (suc i) d (omega arith)

pub AreBits-head : (level : ℕ) (levels : List ℕ) → AreBits (level ∷ levels) → level ≤ 1
AreBits-head level levels bits = bits 0 0 (omega arith)

-- a level adds itself to the number of those that are 1
ones_in-cons : (level : ℕ) (levels : List ℕ) → level ≤ 1 → ones_in (level ∷ levels) ≡ level + ones_in levels
ones_in-cons level levels small = by (is_one level) refl
  where
    by : (one : Bool) → is_one level ≡ one → length (cond one (level ∷ filter is_one levels) (filter is_one levels)) ≡ level + ones_in levels
    by true is = grind (arith, nat_tests)
    by false is = grind (arith, nat_tests)

-- a level more
pub ones_in-take : (levels : List ℕ) (place : ℕ) → AreBits levels → place < length levels
    → ones_in (take (place + 1) levels) ≡ ones_in (take place levels) + slice_index levels place
ones_in-take [] place bits within = absurd (omega arith)
ones_in-take (level ∷ levels) zero bits within =
    let cons : ones_in (level ∷ []) ≡ level + ones_in [] = ones_in-cons level [] (AreBits-head level levels bits) in
    let first : take (0 + 1) (level ∷ levels) ≡ level ∷ [] = refl in
    ap ones_in first ∙ omega (arith, cons)
ones_in-take (level ∷ levels) (suc place) bits within =
    let small = AreBits-head level levels bits in
    let rest = ones_in-take levels place (AreBits-tail level levels bits) (omega arith) in
    let past : suc place + 1 ≡ suc (place + 1) = omega arith in
    ap (λ n. ones_in (take n (level ∷ levels))) past
    ∙ omega (arith, ones_in-cons level (take (place + 1) levels) small, ones_in-cons level (take place levels) small, rest)

-- another level at a place
pub ones_in-set : (levels : List ℕ) (place level : ℕ) → AreBits levels → place < length levels → level ≤ 1
    → ones_in (slice_set levels place level) + slice_index levels place ≡ ones_in levels + level
ones_in-set [] place level bits within small = absurd (omega arith)
ones_in-set (x ∷ levels) zero level bits within small =
    omega (arith, ones_in-cons x levels (AreBits-head x levels bits), ones_in-cons level levels small)
ones_in-set (x ∷ levels) (suc place) level bits within small =
    let first = AreBits-head x levels bits in
    omega (
      arith,
      ones_in-cons x levels first,
      ones_in-cons x (slice_set levels place level) first,
      ones_in-set levels place level (AreBits-tail x levels bits) (omega arith) small,
    )

pub AreBits-set : (levels : List ℕ) (place level : ℕ) → AreBits levels → level ≤ 1 → AreBits (slice_set levels place level)
AreBits-set [] place level bits small i d within = bits i d within
AreBits-set (x ∷ levels) zero level bits small zero d within = small
AreBits-set (x ∷ levels) zero level bits small (suc i) d within = bits (suc i) d within
AreBits-set (x ∷ levels) (suc place) level bits small zero d within = bits 0 d (omega arith)
AreBits-set (x ∷ levels) (suc place) level bits small (suc i) d within =
    AreBits-set levels place level (AreBits-tail x levels bits) small i d (omega arith)
