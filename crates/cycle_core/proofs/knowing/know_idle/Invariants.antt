use Rattle.std.proofs.Common.{◌≡◌, ℕ, ◌<◌}
use Rattle.std.specs.Prelude.{slice_get, Some}
use Rattle.node_core.specs.Calls.{CommitsNothing, ReceivesNothing}
use Rattle.node_core.specs.Nodes.{NodeView}
use Rattle.cycle_core.proofs.knowing.know_idle.Given as goal

abbrev pub invariant-loop-node : goal.invariant-loop-node
invariant-loop-node g l =
    ((number : ℕ) (n : NodeView _) → number < l.node-index → slice_get l.nodes number ≡ Some n → CommitsNothing (g.M.Model.meaning n.model) n)
    × ((number : ℕ) (n : NodeView _) → number < l.node-index → slice_get l.nodes number ≡ Some n → ReceivesNothing (g.M.Model.meaning n.model) n)
