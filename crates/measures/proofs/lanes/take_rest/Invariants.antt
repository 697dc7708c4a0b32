use Rattle.std.proofs.Common.{◌≡◌, ◌≢◌, ℕ, ◌<◌}
use Rattle.measures.proofs.lanes.take_rest.Given as goal

abbrev pub invariant-loop-count : goal.invariant-loop-count
invariant-loop-count g l = record {
  back : g.L.Lanes.are_back l.lanes;
  nodes : g.L.Lanes.nodes l.lanes ≡ g.L.Lanes.nodes l.initial.lanes;
  others : (i j : ℕ) → i < g.L.Lanes.nodes l.initial.lanes → j < g.L.Lanes.nodes l.initial.lanes → j ≢ l.to → g.L.Lanes.rest l.lanes i j ≡ g.L.Lanes.rest l.initial.lanes i j;
}
