use Rattle.std.proofs.Common.{◌≡◌}
use Rattle.measures.proofs.lanes.cycles.Given as goal

abbrev pub invariant-loop : goal.invariant-loop
invariant-loop g l = (g.L.Lanes.nodes l.lanes ≡ l.nodes) × g.L.Lanes.are_at_rest l.lanes
