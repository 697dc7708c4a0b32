use Rattle.std.proofs.Common.{sym, ◌∙◌, subst}
use Rattle.cycle_core.specs.Worlds.{WorldView, AreNodesOf}
use Rattle.cycle_core.proofs.WhereWorldStands.{state-of}
use Rattle.world_tests.proofs.tests.worlds.world_run.WorldRun.tallies.Goals as goal

pub take_nodes-nodes-requires-after_bounds : goal.take_nodes-nodes-requires-after_bounds
take_nodes-nodes-requires-after_bounds g c lifetimes outlives = (state-of (g.M.Model.meaning) c.self.inside.world (sym c.is_spent.ensures ∙ c.if-is_spent.false) c.self.invariant).1.has

pub put_nodes-requires-clause-nodes : goal.put_nodes-requires-clause-nodes
put_nodes-requires-clause-nodes g c lifetimes outlives =
    let w = c.self.inside.world in
    let nodes = c.take_nodes-nodes.result.items in
    let has = (state-of (g.M.Model.meaning) w (sym c.is_spent.ensures ∙ c.if-is_spent.false) c.self.invariant).1.has in
    let P : WorldView _ → Type 0 = λ v. AreNodesOf v.model v.terms v.homes nodes in
    let here = subst (AreNodesOf w.model w.terms w.homes) (sym c.take_nodes-nodes.ensures.nodes) has.nodes in
    subst P (sym c.take_nodes-nodes.ensures.world) here
