use Rattle.std.proofs.Common.{ℕ, ◌<◌, ◌≤◌}
use Rattle.measures.proofs.lanes.post_to_all.Given as goal

abbrev pub invariant-loop-to : goal.invariant-loop-to
invariant-loop-to g l =
    g.E.NodeEnd.is_same l.initial.end l.end × ((k : ℕ) → l.to ≤ k → k < l.nodes → g.E.NodeEnd.is_free l.end k)
