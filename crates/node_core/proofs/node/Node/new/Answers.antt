-- A new node.
use Rattle.std.proofs.Common.{◌≡◌, List, ◌∙◌, subst, sym, ap, refl}
use Rattle.std.specs.Arc.{arc_value}
use Rattle.model_core.specs.Meaning.{Meaning, MeaningLaws}
use Rattle.node_core.specs.Calls.{IsNewNode}
use Rattle.node_core.specs.Homes.{HomesView, home_of}
use Rattle.node_core.specs.Marks.{MarkView}
use Rattle.node_core.specs.NewLogs.{first_logs}
use Rattle.node_core.specs.Sound.{IsNode}
use Rattle.node_core.proofs.NewFacts.{is-new, new-node}
use Rattle.node_core.proofs.NodeViews.{counts_of, node_of}
use Rattle.node_core.proofs.node.Node.new.Goals as goal

pub invariant_of-result : goal.invariant_of-result
invariant_of-result g c =
    let m = g.M.Model.meaning (arc_value c.args.model) in
    let homes = arc_value c.args.homes in
    let store = c.in_ok-store.store in
    let logs : store.logs ≡ first_logs m (home_of homes) c.args.number m.objects =
    c.in_ok-store.ensures.logs ∙ (λ i. first_logs (g.M.Model.meaning (c.deref-2.ensures i)) (home_of homes) c.args.number (g.M.Model.meaning (c.deref-2.ensures i)).objects) in
    let L : Meaning → Type 0 = MeaningLaws in
    let laws = subst L (ap g.M.Model.meaning c.deref.ensures) c.keeps_laws.ensures in
    let N : List MarkView → Type 0 = λ marks. IsNode m c.args.terms c.args.number homes store.logs marks (counts_of 0 0 0) in
    let H : HomesView → Type 0 = λ h. IsNode m c.args.terms c.args.number h store.logs store.marks (counts_of 0 0 0) in
    subst H (sym c.in_ok-store.ensures.homes)
    (subst N (sym c.in_ok-store.ensures.marks) (new-node m homes c.args.number store.logs logs c.args.terms (counts_of 0 0 0) laws c.requires.number c.requires.objects refl))

pub returns-clause-new : goal.returns-clause-new
returns-clause-new g c =
    let m = g.M.Model.meaning (arc_value c.args.model) in
    let homes = arc_value c.args.homes in
    let store = c.in_ok-store.store in
    let logs : store.logs ≡ first_logs m (home_of homes) c.args.number m.objects =
    c.in_ok-store.ensures.logs ∙ (λ i. first_logs (g.M.Model.meaning (c.deref-2.ensures i)) (home_of homes) c.args.number (g.M.Model.meaning (c.deref-2.ensures i)).objects) in
    let L : Meaning → Type 0 = MeaningLaws in
    let laws = subst L (ap g.M.Model.meaning c.deref.ensures) c.keeps_laws.ensures in
    let H : HomesView → Type 0 = λ h. IsNewNode m (node_of (arc_value c.args.model) c.args.terms c.args.number h store 0 0 (counts_of 0 0 0)) in
    subst H (sym c.in_ok-store.ensures.homes)
    (is-new m homes c.args.number store.logs logs (arc_value c.args.model) c.args.terms store (counts_of 0 0 0) laws refl c.in_ok-store.ensures.marks c.in_ok-store.ensures.waiting refl)
