-- How many events each object has sent.
use Rattle.std.proofs.Common.{ℕ, ◌+◌, ◌*◌, ◌≤◌, subst, ap}
use Rattle.std.specs.Arc.{arc_value}
use Rattle.model_core.specs.Meaning.{Meaning, MeaningLaws}
use Rattle.node_core.specs.Nodes.{NodeView, ahead_of, base_at, log_at}
use Rattle.node_core.proofs.KeyFacts.{own-sent}
use Rattle.node_core.proofs.NodeViews.{node_of, counts_of}
use Rattle.node_core.proofs.node.Node.tells_sent.Goals as goal

pub returns : goal.returns
returns g c =
    let i = c.self.inside in
    let v = node_of (arc_value i.model) i.terms i.number i.store.homes i.store i.work i.met (counts_of i.processed i.undone i.committed) in
    let L : Meaning → Type 0 = MeaningLaws in
    let laws = subst L (ap g.M.Model.meaning c.deref.ensures) c.keeps_laws.ensures in
    let P : NodeView g.row.M.Denot → Type 0 = λ n. (object : ℕ) → (log_at n.logs object).state.sent ≤ (base_at n.logs object).sent + 8 * ahead_of n object in
    subst P c.self.view_is (own-sent (g.M.Model.meaning (arc_value i.model)) v i.store.marks c.self.invariant c.tells.ensures laws)
