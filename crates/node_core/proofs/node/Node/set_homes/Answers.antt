-- A node with other homes, under which its objects are the same.
use Rattle.std.proofs.Common.{sym, subst}
use Rattle.std.specs.Arc.{arc_value}
use Rattle.node_core.specs.Moving.{KeepObjects}
use Rattle.node_core.specs.Nodes.{NodeView}
use Rattle.node_core.specs.Sound.{IsNode}
use Rattle.node_core.specs.Stores.{StoreView}
use Rattle.node_core.proofs.HomeNode.{node-kept}
use Rattle.node_core.proofs.NodeViews.{counts_of}
use Rattle.node_core.proofs.node.Node.set_homes.Goals as goal

pub invariant_of-self : goal.invariant_of-self
invariant_of-self g c =
    let i = c.self.inside in
    let m = g.M.Model.meaning (arc_value i.model) in
    let counts = counts_of i.processed i.undone i.committed in
    let K : NodeView g.row.M.Denot → Type 0 = λ n. KeepObjects n.number n.homes (arc_value c.args.homes) in
    let S : StoreView → Type 0 = λ s. IsNode m i.terms i.number s.homes s.logs s.marks counts in
    subst S (sym c.set_homes.ensures)
    (node-kept m i.terms i.number i.store.homes (arc_value c.args.homes) i.store.logs i.store.marks counts c.self.invariant (subst K (sym c.self.view_is) c.requires))
