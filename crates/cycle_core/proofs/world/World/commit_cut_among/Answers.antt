use Rattle.std.proofs.Common.{◌≡◌, ◌∙◌, List, ap, sym, subst}
use Rattle.node_core.specs.Nodes.{NodeView}
use Rattle.cycle_core.specs.Busy.{NamesBusy}
use Rattle.cycle_core.specs.Inside.{nodes_in}
use Rattle.cycle_core.specs.Worlds.{AreNodesOf}
use Rattle.cycle_core.proofs.world.World.commit_cut_among.Goals as goal

pub cut_nodes-requires-clause-world : goal.cut_nodes-requires-clause-world
cut_nodes-requires-clause-world g c κs within =
    let w = c.args.self.now in
    let slice : w.nodes ≡ c.as_slice.result.now = ap (λ v. v.nodes) (sym c.self.view_is) ∙ ap nodes_in c.in-Some.is ∙ sym c.as_slice.ensures.value in
    record { model = w.model; terms = w.terms; homes = w.homes; are = subst (AreNodesOf w.model w.terms w.homes) slice c.requires.nodes.nodes }

pub cut_nodes-requires-clause-busy : goal.cut_nodes-requires-clause-busy
cut_nodes-requires-clause-busy g c κs within =
    let w = c.args.self.now in
    let slice : w.nodes ≡ c.as_slice.result.now = ap (λ v. v.nodes) (sym c.self.view_is) ∙ ap nodes_in c.in-Some.is ∙ sym c.as_slice.ensures.value in
    let B : List (NodeView _) → Type 0 = λ ns. NamesBusy ns c.args.busy.now in
    subst B slice c.requires.busy
