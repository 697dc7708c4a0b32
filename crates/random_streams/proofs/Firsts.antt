-- The first number that passes a test is known by those before it.
use Rattle.std.proofs.Common.{◌≡◌, ℕ, ◌+◌, ◌-◌, ◌<◌, ◌≤◌, List, length, get_or, take, sum, nat_lt, true, false, Bool, arith, ap, ◌∙◌}
use Rattle.std.proofs.lemmas.Bool.Decides.{nat_tests}
use Rattle.std.proofs.lemmas.List.FromFn.{length-range_with_len, get_or-range_with_len}
use Rattle.std.proofs.lemmas.List.Sums.{position_or_len_is}
use Rattle.std.specs.List.{position_or_len, range_with_len}
use Rattle.random_streams.specs.Laws.{first_trial, chosen_place}

-- among the numbers below n
pub first_below : (test : ℕ → Bool) (n i : ℕ) → i ≤ n → ((k : ℕ) → k < i → test k ≡ false) → (i < n → test i ≡ true)
    → position_or_len test (range_with_len 0 n) ≡ i
first_below test n i within before here =
    let long : length (range_with_len 0 n) ≡ n = length-range_with_len 0 n in
    let at : (k : ℕ) → k < n → get_or (range_with_len 0 n) k 0 ≡ k = λ k h. omega (arith, get_or-range_with_len 0 n k 0 h) in
    position_or_len_is test (range_with_len 0 n) i 0 (omega arith)
    (λ k h. ap test (at k (omega arith)) ∙ before k h)
    (λ h. ap test (at i (omega arith)) ∙ here (omega arith))

pub first_trial_is : (p cap : ℕ) (words : ℕ → ℕ) (i : ℕ) → i ≤ cap - 1 → ((k : ℕ) → k < i → p ≤ words k) → (i < cap - 1 → words i < p)
    → first_trial p cap words ≡ i + 1
unfolding first_trial
first_trial_is p cap words i within misses hit =
    ap (λ n. n + 1)
    (first_below (λ k. nat_lt (words k) p) (cap - 1) i within
    (λ k h. let miss : p ≤ words k = misses k h in grind (arith, nat_tests))
    (λ h. let below : words i < p = hit h in grind (arith, nat_tests)))

pub chosen_place_is : (weights : List ℕ) (share i : ℕ) → i ≤ length weights → ((k : ℕ) → k < i → sum (take (k + 1) weights) ≤ share)
    → (i < length weights → share < sum (take (i + 1) weights)) → chosen_place weights share ≡ i
unfolding chosen_place
chosen_place_is weights share i within passed here =
    first_below (λ k. nat_lt share (sum (take (k + 1) weights))) (length weights) i within
    (λ k h. let miss : sum (take (k + 1) weights) ≤ share = passed k h in grind (arith, nat_tests))
    (λ h. let below : share < sum (take (i + 1) weights) = here h in grind (arith, nat_tests))
