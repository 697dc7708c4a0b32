-- A commit and a receipt that change nothing.
use Rattle.std.proofs.Common.{subst, ap}
use Rattle.std.specs.Arc.{arc_value}
use Rattle.model_core.specs.Meaning.{Meaning, MeaningLaws}
use Rattle.node_core.specs.Calls.{CommitsNothing, ReceivesNothing}
use Rattle.node_core.specs.Nodes.{NodeView}
use Rattle.node_core.proofs.NodeViews.{counts_of}
use Rattle.node_core.proofs.NothingFacts.{commits-nothing, receives-nothing}
use Rattle.node_core.proofs.node.Node.tells_idle.Goals as goal

pub returns-clause-commits : goal.returns-clause-commits
returns-clause-commits g c =
    let i = c.self.inside in
    let L : Meaning → Type 0 = MeaningLaws in
    let laws = subst L (ap g.M.Model.meaning c.deref.ensures) c.keeps_laws.ensures in
    let P : NodeView g.row.M.Denot → Type 0 = λ n. CommitsNothing (g.M.Model.meaning n.model) n in
    subst P c.self.view_is
    (commits-nothing (g.M.Model.meaning (arc_value i.model)) (arc_value i.model) i.terms i.number i.store.homes i.store i.work i.met (counts_of i.processed i.undone i.committed)
    (record { laws = laws; node = c.self.invariant; store = c.tells.ensures })
    c.tells_range.ensures)

pub returns-clause-receives : goal.returns-clause-receives
returns-clause-receives g c =
    let i = c.self.inside in
    let P : NodeView g.row.M.Denot → Type 0 = λ n. ReceivesNothing (g.M.Model.meaning n.model) n in
    subst P c.self.view_is
    (receives-nothing (g.M.Model.meaning (arc_value i.model)) (arc_value i.model) i.terms i.number i.store.homes i.store i.work i.met (counts_of i.processed i.undone i.committed)
    c.self.invariant c.tells.ensures
    c.tells_range-2.ensures)
