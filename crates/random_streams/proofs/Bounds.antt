-- What is drawn lies within the law's bounds.
use Rattle.std.proofs.Common.{◌≡◌, ℕ, ◌+◌, ◌-◌, ◌%◌, ◌^◌, ◌<◌, ◌≤◌, List, [], ◌∷◌, length, get_or, sum, take, take_all, nat_lt, false, Bool, not, IsTrue, arith, ap, sym, ◌∙◌, ⊎_elim}
use Rattle.std.proofs.lemmas.Bool.{cases_lt}
use Rattle.std.proofs.lemmas.Bool.Decides.{nat_tests}
use Rattle.std.proofs.lemmas.List.FromFn.{length-range_with_len, get_or-range_with_len}
use Rattle.std.proofs.lemmas.List.Sums.{fails_before_first, prefix_len-le-length}
use Rattle.std.specs.List.{position_or_len, range_with_len}
use Rattle.random_streams.specs.declared.law.Law.{Law}
use Rattle.random_streams.specs.declared.law.Law.TheVariants.{Fixed, Uniform, Geometric, Choice}
use Rattle.random_streams.specs.Words.{words_from}
use Rattle.random_streams.specs.Laws.{is_choice, is_drawable, is_delay, draw, first_trial, chosen_place, drawn_value, greatest_value}

-- the first of n numbers that passes is at most n
first_below-le : (test : ℕ → Bool) (n : ℕ) → position_or_len test (range_with_len 0 n) ≤ n
first_below-le test n = omega (arith, prefix_len-le-length (λ i. not (test i)) (range_with_len 0 n), length-range_with_len 0 n)

-- one before the first that passes fails
fails_below : (test : ℕ → Bool) (n k : ℕ) → k < n → k < position_or_len test (range_with_len 0 n) → test k ≡ false
fails_below test n k h before =
    let at : get_or (range_with_len 0 n) k 0 ≡ k = omega (arith, get_or-range_with_len 0 n k 0 h) in
    sym (ap test at) ∙ fails_before_first test (range_with_len 0 n) k 0 before

pub first_trial_le : (p cap : ℕ) (words : ℕ → ℕ) → 1 ≤ cap → first_trial p cap words ≤ cap
unfolding first_trial
first_trial_le p cap words h = omega (arith, first_below-le (λ i. nat_lt (words i) p) (cap - 1))

-- the sum of all the weights is above the share at some place
reached : (weights : List ℕ) (share : ℕ) → 1 ≤ length weights → length weights ≤ chosen_place weights share → sum weights ≤ share
unfolding chosen_place
reached weights share some past =
    let n = length weights in
    let miss : nat_lt share (sum (take (n - 1 + 1) weights)) ≡ false =
    fails_below (λ i. nat_lt share (sum (take (i + 1) weights))) n (n - 1) (omega arith) (omega arith) in
    let whole : take (n - 1 + 1) weights ≡ weights = take_all (n - 1 + 1) weights (omega arith) in
    let miss_whole : nat_lt share (sum weights) ≡ false = ap (λ ws. nat_lt share (sum ws)) (sym whole) ∙ miss in
    grind (arith, nat_tests)

some_weight : (weights : List ℕ) (share : ℕ) → share < sum weights → 1 ≤ length weights
some_weight [] share h = absurd (omega arith)
some_weight (w ∷ ws) share h = omega arith

pub chosen_place_lt : (weights : List ℕ) (share : ℕ) → share < sum weights → chosen_place weights share < length weights
chosen_place_lt weights share h =
    ⊎_elim (λ within. within)
    (λ past. let le = reached weights share (some_weight weights share h) past in absurd (omega arith))
    (cases_lt (chosen_place weights share) (length weights))

pub drawn_value-le : (law : Law) (words : ℕ → ℕ) → IsTrue (is_drawable law) → drawn_value law words ≤ greatest_value law
unfolding drawn_value greatest_value is_drawable is_choice
drawn_value-le (Fixed value) words h = omega arith
drawn_value-le (Uniform low high) words h = grind (arith, nat_tests)
drawn_value-le (Geometric p cap) words h = let l : 1 ≤ cap = grind (arith, nat_tests) in first_trial_le p cap words l
drawn_value-le (Choice weights) words h =
    let l : 1 ≤ sum weights = grind (arith, nat_tests) in
    omega (arith, chosen_place_lt weights (words 0 % sum weights) (omega arith))

pub greatest_value-le : (law : Law) → IsTrue (is_drawable law) → greatest_value law ≤ 2 ^ 40
unfolding greatest_value is_drawable is_choice
greatest_value-le (Fixed value) h = grind (arith, nat_tests)
greatest_value-le (Uniform low high) h = grind (arith, nat_tests)
greatest_value-le (Geometric p cap) h = grind (arith, nat_tests)
greatest_value-le (Choice weights) h = grind (arith, nat_tests)

-- what models ask of a draw
pub draw-within : (seed object place : ℕ) (law : Law) → IsTrue (is_drawable law) → (draw seed object place law).0 ≤ greatest_value law
unfolding draw
draw-within seed object place law h = drawn_value-le law (words_from seed object place) h

pub draw-le : (seed object place : ℕ) (law : Law) → IsTrue (is_drawable law) → (draw seed object place law).0 ≤ 2 ^ 40
draw-le seed object place law h = omega (arith, draw-within seed object place law h, greatest_value-le law h)

pub is_drawable-delay : (law : Law) → IsTrue (is_delay law) → IsTrue (is_drawable law)
unfolding is_delay
is_drawable-delay (Fixed value) h = h
is_drawable-delay (Uniform low high) h = h
is_drawable-delay (Geometric p cap) h = h
is_drawable-delay (Choice weights) h = cc
