-- A node with another state of an object.
use Rattle.std.proofs.Common.{◌≡◌, [], refl, sym, subst}
use Rattle.std.specs.Arc.{arc_value}
use Rattle.std.specs.Prelude.{IsTrue}
use Rattle.object_log.specs.Logs.{LogView}
use Rattle.world_spec.specs.Share.{IsHome}
use Rattle.node_core.specs.Nodes.{NodeView, home, log_at}
use Rattle.node_core.specs.Sound.{IsNode}
use Rattle.node_core.specs.Stores.{StoreView}
use Rattle.node_core.proofs.NodeViews.{counts_of}
use Rattle.node_core.proofs.SetFacts.{put-node}
use Rattle.node_core.proofs.node.Node.set_object.Goals as goal

pub invariant_of-self : goal.invariant_of-self
invariant_of-self g c =
    let i = c.self.inside in
    let m = g.M.Model.meaning (arc_value i.model) in
    let H : NodeView g.row.M.Denot → Type 0 = λ n. IsHome (g.M.Model.meaning n.model) (home n) n.number c.args.object in
    let N : NodeView g.row.M.Denot → Type 0 = λ n. (log_at n.logs c.args.object).done ≡ [] in
    let L : NodeView g.row.M.Denot → Type 0 = λ n. IsTrue ((g.M.Model.meaning n.model).lawful c.args.object c.args.cells.contents) in
    let counts = counts_of i.processed i.undone i.committed in
    let log : LogView = record { object = c.args.object; state = record { cells = c.args.cells.contents; sent = c.args.sent }; done = [] } in
    let S : StoreView → Type 0 = λ s. IsNode m i.terms i.number s.homes s.logs s.marks counts in
    subst S (sym c.set.ensures.rest)
    (put-node c.args.object log i.store.logs c.set.new.self.logs c.set.ensures.logs (c.self.invariant.here c.args.object (subst H (sym c.self.view_is) c.requires.here))
    (subst N (sym c.self.view_is) c.requires.none) refl refl i.store.marks i.store.waiting c.tells.ensures
    m i.terms i.number i.store.homes counts c.self.invariant (subst L (sym c.self.view_is) c.requires.lawful))
