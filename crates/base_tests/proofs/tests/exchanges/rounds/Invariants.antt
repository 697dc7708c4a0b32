use Rattle.std.proofs.Common.{◌≡◌}
use Rattle.base_tests.proofs.tests.exchanges.rounds.Given as goal

abbrev pub invariant-loop : goal.invariant-loop
invariant-loop g l = g.L.Lanes.are_at_rest l.lanes × (g.L.Lanes.nodes l.lanes ≡ 2)
