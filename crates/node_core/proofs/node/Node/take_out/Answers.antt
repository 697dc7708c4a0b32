-- An object leaves the node.
use Rattle.std.proofs.Common.{◌≢◌, ◌+◌, ◌-◌, ◌%◌, ◌^◌, sym, subst}
use Rattle.std.specs.Arc.{arc_value}
use Rattle.world_spec.specs.Share.{IsHome}
use Rattle.node_core.specs.Homes.{HomesView, home_of}
use Rattle.node_core.specs.Moving.{AreAlikeBut, HasTakenOut}
use Rattle.node_core.specs.Nodes.{NodeView, home}
use Rattle.node_core.specs.Sound.{IsNode}
use Rattle.node_core.proofs.MovingNode.{node-left, taken-out}
use Rattle.node_core.proofs.NodeViews.{node_of, counts_of}
use Rattle.node_core.proofs.node.Node.take_out.Goals as goal

pub invariant_of-self : goal.invariant_of-self
invariant_of-self g c =
    let i = c.self.inside in
    let t = c.take_out-moved in
    let m = g.M.Model.meaning (arc_value i.model) in
    let counts = counts_of i.processed i.undone i.committed in
    let A : NodeView g.row.M.Denot → Type 0 = λ n. AreAlikeBut c.args.object n.homes (arc_value c.args.homes) in
    let G : NodeView g.row.M.Denot → Type 0 = λ n. home_of (arc_value c.args.homes) c.args.object ≢ n.number in
    let alike = subst A (sym c.self.view_is) c.requires.homes in
    let goes = subst G (sym c.self.view_is) c.requires.goes in
    let N : HomesView → Type 0 = λ h. IsNode m i.terms i.number h t.new.self.logs t.new.self.marks (record counts { processed = (i.processed + (2 ^ 64 - c.processed.result)) % 2 ^ 64 }) in
    subst N (sym t.ensures.homes)
    (node-left m i.terms i.number c.args.object i.store.homes (arc_value c.args.homes) i.store t.new.self t.result counts c.self.invariant c.tells.ensures t.ensures.left alike goes c.processed.result c.processed.ensures)

pub returns-clause-left : goal.returns-clause-left
returns-clause-left g c =
    let i = c.self.inside in
    let t = c.take_out-moved in
    let m = g.M.Model.meaning (arc_value i.model) in
    let counts = counts_of i.processed i.undone i.committed in
    let A : NodeView g.row.M.Denot → Type 0 = λ n. AreAlikeBut c.args.object n.homes (arc_value c.args.homes) in
    let G : NodeView g.row.M.Denot → Type 0 = λ n. home_of (arc_value c.args.homes) c.args.object ≢ n.number in
    let alike = subst A (sym c.self.view_is) c.requires.homes in
    let goes = subst G (sym c.self.view_is) c.requires.goes in
    let H : NodeView g.row.M.Denot → Type 0 = λ n. IsHome (g.M.Model.meaning n.model) (home n) n.number c.args.object in
    let later = record counts { processed = (i.processed + (2 ^ 64 - c.processed.result)) % 2 ^ 64 } in
    let old = node_of (arc_value i.model) i.terms i.number i.store.homes i.store i.work i.met counts in
    let has = taken-out m i.terms i.number c.args.object i.store.homes (arc_value c.args.homes) i.store t.new.self t.result counts c.self.invariant c.tells.ensures t.ensures.left alike goes (arc_value i.model) i.work i.met
    c.processed.result c.processed.ensures (subst H (sym c.self.view_is) c.requires.here) in
    let N : HomesView → Type 0 = λ h. HasTakenOut m c.args.object (arc_value c.args.homes) old (node_of (arc_value i.model) i.terms i.number h t.new.self i.work i.met later) t.result in
    let P : NodeView g.row.M.Denot → Type 0 = λ n. HasTakenOut (g.M.Model.meaning n.model) c.args.object (arc_value c.args.homes) n (node_of (arc_value i.model) i.terms i.number t.new.self.homes t.new.self i.work i.met later) t.result in
    subst P c.self.view_is (subst N (sym t.ensures.homes) has)
