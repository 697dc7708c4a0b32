use Rattle.std.proofs.Common.{◌≤◌}
use Rattle.std.specs.Prelude.{vec_capacity}
use Rattle.std.specs.Arc.{arc_value}
use Rattle.cycle_core.specs.Starts.{AreNewNodes}
use Rattle.cycle_core.proofs.beginning.first_nodes.Given as goal

abbrev pub invariant-loop-number : goal.invariant-loop-number
invariant-loop-number g l =
    AreNewNodes (g.M.Model.meaning (arc_value l.fn.model)) (arc_value l.fn.model) l.fn.terms (arc_value l.fn.homes) l.number l.nodes.items
    × ((arc_value l.fn.homes).nodes ≤ vec_capacity l.nodes)
