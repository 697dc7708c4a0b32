use Rattle.std.proofs.Common.{◌≡◌, ℕ, ◌<◌, []}
use Rattle.measures.proofs.lanes.take_all.Given as goal

abbrev pub invariant-loop-to : goal.invariant-loop-to
invariant-loop-to g l = record {
  back : g.L.Lanes.are_back l.lanes;
  nodes : g.L.Lanes.nodes l.lanes ≡ l.nodes;
  none : (from to : ℕ) → from < l.nodes → to < l.to → g.L.Lanes.rest l.lanes from to ≡ [];
}
