use Rattle.std.proofs.Common.{◌≡◌, ◌<◌, ◌≤◌, ◌+◌, ◌*◌, ℕ, length, sum, take, slice_index}
use Rattle.random_streams.proofs.shares.sums.Given as goal

abbrev pub invariant-loop-weight : goal.invariant-loop-weight
invariant-loop-weight l = record {
  so_far : l.sum ≡ sum (take l.weight-index l.weights);
  small : l.sum ≤ 4294967295 * l.weight-index;
  long : length l.sums.items ≡ l.weight-index;
  each : (k : ℕ) → k < l.weight-index → slice_index l.sums.items k ≡ sum (take (k + 1) l.weights);
}
