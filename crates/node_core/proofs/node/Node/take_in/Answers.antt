-- An object comes to the node.
use Rattle.std.proofs.Common.{◌+◌, ◌%◌, ◌^◌, refl, sym, subst}
use Rattle.std.specs.Arc.{arc_value}
use Rattle.node_core.specs.Homes.{HomesView}
use Rattle.node_core.specs.Moving.{CanTakeIn, HasTakenIn}
use Rattle.node_core.specs.Nodes.{NodeView}
use Rattle.node_core.specs.Sound.{IsNode}
use Rattle.node_core.proofs.MovingNode.{can-come, node-came, taken-in}
use Rattle.node_core.proofs.NodeViews.{node_of, counts_of}
use Rattle.node_core.proofs.node.Node.take_in.Goals as goal
use Rattle.node_core.proofs.node.Node.take_in.Goals.{After-self}
use Rattle.node_core.proofs.node.Node.take_in.Given.{Over}

-- what it was, and that the object can come
abbrev was : (g : Over) → After-self g → NodeView g.row.M.Denot
was g c =
    let i = c.self.inside in
    node_of (arc_value i.model) i.terms i.number i.store.homes i.store i.work i.met (counts_of i.processed i.undone i.committed)

can : (g : Over) (c : After-self g) → CanTakeIn (g.M.Model.meaning (arc_value c.self.inside.model)) (arc_value c.args.homes) (was g c) c.args.moved
can g c =
    let P : NodeView g.row.M.Denot → Type 0 = λ n. CanTakeIn (g.M.Model.meaning n.model) (arc_value c.args.homes) n c.args.moved in
    subst P (sym c.self.view_is) c.requires

pub take_in-requires : goal.take_in-requires
take_in-requires g c =
    let at = (goal.at.take_in-requires g c).After-self in
    can-come _ (was g at) c.self.inside.store refl refl refl refl refl (arc_value c.args.homes) c.args.moved c.self.invariant (can g at)

pub invariant_of-self : goal.invariant_of-self
invariant_of-self g c =
    let at = (goal.at.invariant_of-self g c).After-self in
    let i = c.self.inside in
    let new = c.take_in.new.self in
    let later = record (was g at).counts { processed = (i.processed + c.processed-count.result) % 2 ^ 64 } in
    let N : HomesView → Type 0 = λ h. IsNode (g.M.Model.meaning (arc_value i.model)) i.terms i.number h new.logs new.marks later in
    subst N (sym c.take_in.ensures.homes)
    (node-came _ (was g at) i.store refl refl refl refl refl (arc_value c.args.homes) c.args.moved c.self.invariant (can g at) new c.take_in.ensures.come
    c.processed-count.result c.processed-count.ensures)

pub returns : goal.returns
returns g c =
    let at = (goal.at.returns g c).After-self in
    let i = c.self.inside in
    let homes = arc_value c.args.homes in
    let new = c.take_in.new.self in
    let later = record (was g at).counts { processed = (i.processed + c.processed-count.result) % 2 ^ 64 } in
    let now = λ (h : HomesView). node_of (arc_value i.model) i.terms i.number h new i.work i.met later in
    let has = taken-in _ (was g at) i.store refl refl refl refl refl homes c.args.moved c.self.invariant (can g at) new c.take_in.ensures.come
    c.processed-count.result c.processed-count.ensures in
    let N : HomesView → Type 0 = λ h. HasTakenIn homes (was g at) (now h) c.args.moved in
    let Q : NodeView g.row.M.Denot → Type 0 = λ v. HasTakenIn homes v (now new.homes) c.args.moved in
    subst Q c.self.view_is (subst N (sym c.take_in.ensures.homes) has)
