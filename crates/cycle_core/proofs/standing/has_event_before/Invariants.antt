use Rattle.std.proofs.Common.{◌≡◌, ℕ, ◌<◌}
use Rattle.std.specs.Prelude.{slice_get, Some}
use Rattle.node_core.specs.Nodes.{NodeView}
use Rattle.cycle_core.specs.Gathered.{HasNoneBefore}
use Rattle.cycle_core.proofs.standing.has_event_before.Given as goal

abbrev pub invariant-loop-node : goal.invariant-loop-node
invariant-loop-node g l = (number : ℕ) (n : NodeView _) → number < l.node-index → slice_get l.nodes number ≡ Some n → HasNoneBefore (g.M.Model.meaning) l.bound n
