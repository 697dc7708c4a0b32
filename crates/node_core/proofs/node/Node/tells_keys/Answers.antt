-- The keys of the processed events.
use Rattle.std.proofs.Common.{subst, refl}
use Rattle.std.specs.Arc.{arc_value}
use Rattle.node_core.specs.Nodes.{NodeView}
use Rattle.node_core.specs.Shares.{AreProcessedKeys}
use Rattle.node_core.proofs.KeyFacts.{own-keys}
use Rattle.node_core.proofs.NodeViews.{node_of, counts_of}
use Rattle.node_core.proofs.node.Node.tells_keys.Goals as goal

pub returns : goal.returns
returns g c =
    let i = c.self.inside in
    let v = node_of (arc_value i.model) i.terms i.number i.store.homes i.store i.work i.met (counts_of i.processed i.undone i.committed) in
    let P : NodeView g.row.M.Denot → Type 0 = λ n. AreProcessedKeys (g.M.Model.meaning n.model) n in
    subst P c.self.view_is (own-keys (g.M.Model.meaning (arc_value i.model)) v i.store.marks c.self.invariant c.tells.ensures.marked refl)
