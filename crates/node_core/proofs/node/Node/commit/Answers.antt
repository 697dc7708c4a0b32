-- What is due is committed.
use Rattle.std.proofs.Common.{◌+◌, ◌*◌, ◌<◌, ◌%◌, ◌^◌, length, subst, sym, refl}
use Rattle.std.specs.Arc.{arc_value}
use Rattle.model_core.specs.Meaning.{MeaningLaws}
use Rattle.world_spec.specs.Moves.{IsDueDone}
use Rattle.node_core.specs.Calls.{HasCommitted}
use Rattle.node_core.specs.Homes.{HomesView}
use Rattle.node_core.specs.Nodes.{NodeView, data_of, home}
use Rattle.node_core.specs.Sound.{IsNode}
use Rattle.node_core.proofs.CommitNode.{IsInside, can-commit, committed-whole, node-committed}
use Rattle.node_core.proofs.NodeViews.{node_of, counts_of}
use Rattle.node_core.proofs.node.Node.commit.Goals as goal
use Rattle.node_core.proofs.node.Node.commit.Goals.{After-tells}
use Rattle.node_core.proofs.node.Node.commit.Given.{Over}

-- all that is known of it before
abbrev Inside : (g : Over) → After-tells g → Type 0
Inside g c =
    let i = c.self.inside in
    IsInside (g.M.Model.meaning (arc_value i.model)) i.terms i.number i.store.homes i.store (counts_of i.processed i.undone i.committed)

inside : (g : Over) (c : After-tells g) → Inside g c
inside g c =
    let L : g.row.M.Denot → Type 0 = λ x. MeaningLaws (g.M.Model.meaning x) in
    record { laws = subst L c.deref.ensures c.keeps_laws.ensures; node = c.self.invariant; store = c.tells.ensures }

-- what is due is done
abbrev was : (g : Over) → After-tells g → NodeView g.row.M.Denot
was g c =
    let i = c.self.inside in
    node_of (arc_value i.model) i.terms i.number i.store.homes i.store i.work i.met (counts_of i.processed i.undone i.committed)

due : (g : Over) (c : After-tells g)
    → IsDueDone (g.M.Model.meaning (arc_value c.self.inside.model)) (home (was g c)) c.self.inside.number c.args.horizon c.args.cut (data_of (was g c))
due g c =
    let P : NodeView g.row.M.Denot → Type 0 = λ n. IsDueDone (g.M.Model.meaning n.model) (home n) n.number c.args.horizon c.args.cut (data_of n) in
    subst P (sym c.self.view_is) c.requires.done

pub commit-requires-clause-can : goal.commit-requires-clause-can
commit-requires-clause-can g c =
    let at = (goal.at.commit-requires-clause-can g c).After-tells in
    let F : NodeView g.row.M.Denot → Type 0 = λ n. 8 * length n.processed < 2 ^ 60 in
    can-commit _ _ _ _ _ _ (inside g at) c.args.horizon c.args.cut (due g at) (subst F (sym c.self.view_is) c.requires.few)

pub invariant_of-self-2 : goal.invariant_of-self-2
invariant_of-self-2 g c =
    let at = (goal.at.invariant_of-self-2 g c).After-tells in
    let i = c.self.inside in
    let new = c.commit.new in
    let after = counts_of i.processed i.undone ((i.committed + c.len.result) % 2 ^ 64) in
    let N : HomesView → Type 0 = λ h. IsNode (g.M.Model.meaning (arc_value i.model)) i.terms i.number h new.self.logs new.self.marks after in
    subst N (sym c.in_ok-commit.ensures.homes)
    (node-committed _ _ _ _ _ new.self _ (inside g at) c.args.horizon c.args.cut new.into.done.items new.into.out.items c.in_ok-commit.ensures.ok
    c.len.result c.len.ensures after refl)

pub returns-clause-ok : goal.returns-clause-ok
returns-clause-ok g c =
    let at = (goal.at.returns-clause-ok g c).After-tells in
    let i = c.self.inside in
    let m = g.M.Model.meaning (arc_value i.model) in
    let store = c.commit.new.self in
    let told = c.commit.new.into.done.items in
    let out = c.commit.new.into.out.items in
    let after = counts_of i.processed i.undone ((i.committed + c.len.result) % 2 ^ 64) in
    let new = λ (h : HomesView). node_of (arc_value i.model) i.terms i.number h store i.work i.met after in
    let H : HomesView → Type 0 = λ h. HasCommitted m c.args.horizon c.args.cut (was g at) (new h) told out in
    let P : NodeView g.row.M.Denot → Type 0 = λ n. HasCommitted (g.M.Model.meaning n.model) c.args.horizon c.args.cut n (new store.homes) told out in
    subst P c.self.view_is
    (subst H (sym c.in_ok-commit.ensures.homes)
    (committed-whole _ _ _ _ _ store _ (inside g at) c.args.horizon c.args.cut told out c.in_ok-commit.ensures.ok c.tells-2.ensures (due g at)
    (arc_value i.model) i.work i.met c.len.result c.len.ensures))
