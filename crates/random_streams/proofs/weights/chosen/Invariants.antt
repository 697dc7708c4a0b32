use Rattle.std.proofs.Common.{◌≡◌, ℕ, ◌+◌, ◌<◌, ◌≤◌, sum, take}
use Rattle.random_streams.proofs.weights.chosen.Given as goal

abbrev pub invariant-loop-place : goal.invariant-loop-place
invariant-loop-place l =
    record {
      rest : l.left + sum (take l.place l.weights) ≡ l.share;
      passed : (k : ℕ) → k < l.place → sum (take (k + 1) l.weights) ≤ l.share;
    }
