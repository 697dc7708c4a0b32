-- With those that are left the counts are whole.
use Rattle.std.proofs.Common.{◌≡◌, ◌+◌, ◌<◌, ℕ, length, drop}
use Rattle.std.specs.Prelude.{slice_index_or}
use Rattle.node_core.specs.Homes.{count_of}
use Rattle.node_core.proofs.homes.counts_of.Given as goal

abbrev pub invariant-loop-home : goal.invariant-loop-home
invariant-loop-home l = record {
  many : length l.counts.items ≡ l.nodes;
  each : (number : ℕ) → number < l.nodes → slice_index_or l.counts.items number 0 + count_of (drop l.home-index l.fn.homes) number ≡ count_of l.fn.homes number;
}
