-- The sums of weights.
use Rattle.std.proofs.Common.{◌≡◌, ℕ, zero, suc, ◌+◌, ◌-◌, ◌*◌, ◌^◌, ◌<◌, ◌≤◌, IsTrue, List, [], ◌∷◌, length, get_or, sum, take, take_all, ap, ◌∙◌, arith}
use Rattle.std.specs.Prelude.{nat_le}
use Rattle.std.specs.List.{list_all}
use Rattle.std.proofs.lemmas.Bool.Decides.{nat_tests}
use Rattle.std.proofs.lemmas.List.{get_or_read}
use Rattle.std.proofs.lemmas.List.Sums.{sum_by-cons}
use Rattle.random_streams.specs.Shares.{are_shares}

pub longer_sum : (xs : List ℕ) (i j : ℕ) → i ≤ j → sum (take i xs) ≤ sum (take j xs)
longer_sum xs zero j le = omega arith
longer_sum xs (suc i) zero le = absurd (omega arith)
longer_sum [] (suc i) (suc j) le = omega arith
longer_sum (x ∷ xs) (suc i) (suc j) le =
    omega (arith, longer_sum xs i j (omega arith), sum_by-cons (λ (n : ℕ). n) x (take i xs), sum_by-cons (λ (n : ℕ). n) x (take j xs))

sum_le : (weights : List ℕ) → IsTrue (list_all (λ weight. nat_le weight 65535) weights) → sum weights ≤ 65535 * length weights
sum_le [] fit = omega arith
sum_le (weight ∷ rest) fit =
    let first : weight ≤ 65535 = grind (arith, nat_tests) in
    omega (arith, sum_le rest (grind (arith, nat_tests)), sum_by-cons (λ (n : ℕ). n) weight rest)

pub shares_len : (weights : List ℕ) → IsTrue (are_shares weights) → (1 ≤ length weights) × (length weights ≤ 1024)
unfolding are_shares
shares_len weights fine = (grind (arith, nat_tests), grind (arith, nat_tests))

pub shares_total : (weights : List ℕ) → IsTrue (are_shares weights) → (1 ≤ sum weights) × (sum weights ≤ 2 ^ 32)
unfolding are_shares
shares_total weights fine =
    let fit : IsTrue (list_all (λ weight. nat_le weight 65535) weights) = grind (arith, nat_tests) in
    (grind (arith, nat_tests), omega (arith, sum_le weights fit, (shares_len weights fine).1))

-- the sum up to the last place is that of all
pub sum_up_to_last : (weights : List ℕ) → 1 ≤ length weights → sum (take (length weights - 1 + 1) weights) ≡ sum weights
sum_up_to_last weights some = ap (λ (ws : List ℕ). sum ws) (take_all (length weights - 1 + 1) weights (omega arith))

-- the last of the sums
pub last_sum : (weights sums : List ℕ) (n x : ℕ) → IsTrue (are_shares weights) → length sums ≡ length weights
    → ((k : ℕ) → k < length weights → get_or sums k 0 ≡ sum (take (k + 1) weights)) → n ≡ length weights → x ≡ get_or sums (n - 1) x → x ≡ sum weights
last_sum weights sums n x fine long each last read =
    let some : 1 ≤ length weights = (shares_len weights fine).0 in
    let at : n - 1 ≡ length weights - 1 = omega arith in
    get_or_read sums (n - 1) x (omega arith) read 0
    ∙ ap (λ k. get_or sums k 0) at
    ∙ each (length weights - 1) (omega arith)
    ∙ sum_up_to_last weights some
