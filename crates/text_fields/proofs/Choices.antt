-- Equal weights are those of a choice.
use Rattle.std.proofs.Common.{◌≡◌, ℕ, zero, suc, ◌≤◌, true, length, sum, replicate, refl, arith}
use Rattle.std.specs.Prelude.{IsTrue, nat_le}
use Rattle.std.specs.List.{list_all}
use Rattle.std.proofs.lemmas.List.{length-replicate}
use Rattle.std.proofs.lemmas.List.Folds.{sum_by-replicate}
use Rattle.std.proofs.lemmas.Bool.Decides.{nat_tests}
use Rattle.random_streams.specs.declared.weights.TheConstants.{MOST_WEIGHT}
use Rattle.random_streams.specs.Shares.{are_shares}

ones_small : (n : ℕ) → list_all (λ weight. nat_le weight MOST_WEIGHT) (replicate n 1) ≡ true
ones_small zero = refl
ones_small (suc n) = ones_small n

sum-ones : (n : ℕ) → sum (replicate n 1) ≡ n
sum-ones n = omega (arith, sum_by-replicate (λ (x : ℕ). x) n 1)

pub are_shares-ones : (n : ℕ) → 1 ≤ n → n ≤ 1024 → IsTrue (are_shares (replicate n 1))
unfolding are_shares
are_shares-ones n some few =
    let long : length (replicate {A = ℕ} n 1) ≡ n = length-replicate {A = ℕ} n 1 in
    rw (long, ones_small n, sum-ones n) (grind (arith, nat_tests))
