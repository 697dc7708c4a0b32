use Rattle.std.proofs.Common.{◌≡◌, List, length, ap, sym, ◌∙◌, subst, refl, arith}
use Rattle.std.proofs.lemmas.List.{with_items_is}
use Rattle.node_core.specs.Nodes.{NodeView}
use Rattle.cycle_core.specs.Blank.{AreBlankLists}
use Rattle.cycle_core.specs.Busy.{NamesBusy}
use Rattle.cycle_core.specs.Cuts.{CanEnd, HaveEnded}
use Rattle.cycle_core.specs.Inside.{nodes_in}
use Rattle.cycle_core.specs.Known.{AreKnown}
use Rattle.cycle_core.proofs.ChangedNodes.{nodes-alone}
use Rattle.cycle_core.proofs.CycleFacts.{can-end, cut-answers}
use Rattle.cycle_core.proofs.world.World.end_with.Goals as goal

pub unreachable-requires : goal.unreachable-requires
unreachable-requires g c =
    let none : length c.args.self.now.nodes ≡ 0 = ap (λ w. length w.nodes) (sym c.self.view_is) ∙ ap (λ o. length (nodes_in o)) c.in_default.is in
    let some = c.requires.stands.1.has.nodes.some in
    omega arith

pub end_nodes-requires-clause-can : goal.end_nodes-requires-clause-can
end_nodes-requires-clause-can g c lifetimes outlives =
    let of = g.M.Model.meaning in
    let w = c.args.self.now in
    let slice : w.nodes ≡ c.as_mut_slice-nodes.result.now = ap (λ v. v.nodes) (sym c.self.view_is) ∙ ap nodes_in c.in-Some.is ∙ sym c.as_mut_slice-nodes.ensures.value in
    let known = subst (AreKnown of) (sym slice) (λ place x at. c.know_all.ensures place x at) in
    let s = c.requires.stands.0 in
    let stands = c.requires.stands.1 in
    subst (CanEnd of c.args.bound c.args.cut.now.below) slice
    (can-end of w c.requires.laws s stands c.args.bound c.requires.closed known c.args.cut.now.below
    (cut-answers of w c.requires.laws s stands c.args.bound c.requires.closed known c.args.cut.now c.requires.cut).below)

pub end_nodes-requires-clause-blank : goal.end_nodes-requires-clause-blank
end_nodes-requires-clause-blank g c lifetimes outlives =
    let slice : c.args.self.now.nodes ≡ c.as_mut_slice-nodes.result.now = ap (λ v. v.nodes) (sym c.self.view_is) ∙ ap nodes_in c.in-Some.is ∙ sym c.as_mut_slice-nodes.ensures.value in
    subst (λ n. AreBlankLists n c.args.lists.now) (sym c.requires.stands.1.has.nodes.many ∙ ap length slice) c.requires.lists

pub end_nodes-requires-clause-busy : goal.end_nodes-requires-clause-busy
end_nodes-requires-clause-busy g c lifetimes outlives =
    let slice : c.args.self.now.nodes ≡ c.as_mut_slice-nodes.result.now = ap (λ v. v.nodes) (sym c.self.view_is) ∙ ap nodes_in c.in-Some.is ∙ sym c.as_mut_slice-nodes.ensures.value in
    let B : List (NodeView _) → Type 0 = λ ns. NamesBusy ns c.args.busy.now in
    subst B slice c.requires.busy

pub returns-in_err-records-clause-world : goal.returns-in_err-records-clause-world
returns-in_err-records-clause-world g c = nodes-alone c.args.self.now _ _ _ c.self.view_is refl

pub returns-clause-known : goal.returns-clause-known
returns-clause-known g c place x at =
    let slice : c.args.self.now.nodes ≡ c.as_mut_slice-nodes.result.now = ap (λ v. v.nodes) (sym c.self.view_is) ∙ ap nodes_in c.in-Some.is ∙ sym c.as_mut_slice-nodes.ensures.value in
    subst (AreKnown (g.M.Model.meaning)) (sym slice) (λ place x at. c.know_all.ensures place x at) place x at

pub returns-clause-known_now : goal.returns-clause-known_now
returns-clause-known_now g c place x at =
    let ended = c.in_ok-records.ensures.ended in
    let over = with_items_is c.in-Some.nodes c.end_nodes.new.nodes (ended.receives.many ∙ ended.commits.many ∙ ap length c.as_mut_slice-nodes.ensures.value ∙ sym c.in-Some.nodes.ok.0) in
    subst (AreKnown (g.M.Model.meaning)) (sym over) (λ place x at. c.know_all-2.ensures place x at) place x at

pub returns-clause-ended : goal.returns-clause-ended
returns-clause-ended g c =
    let w = c.args.self.now in
    let slice : w.nodes ≡ c.as_mut_slice-nodes.result.now = ap (λ v. v.nodes) (sym c.self.view_is) ∙ ap nodes_in c.in-Some.is ∙ sym c.as_mut_slice-nodes.ensures.value in
    let ended = c.in_ok-records.ensures.ended in
    let over = with_items_is c.in-Some.nodes c.end_nodes.new.nodes (ended.receives.many ∙ ended.commits.many ∙ ap length c.as_mut_slice-nodes.ensures.value ∙ sym c.in-Some.nodes.ok.0) in
    let H : List (NodeView _) → List (NodeView _) → Type 0 = λ old new. HaveEnded (g.M.Model.meaning) c.args.bound c.args.cut.now.below old new c.in_ok-records.records.items in
    subst (H w.nodes) (sym over) (subst (λ old. H old c.end_nodes.new.nodes) (sym slice) ended)

pub returns-clause-lists : goal.returns-clause-lists
returns-clause-lists g c =
    let slice : c.args.self.now.nodes ≡ c.as_mut_slice-nodes.result.now = ap (λ v. v.nodes) (sym c.self.view_is) ∙ ap nodes_in c.in-Some.is ∙ sym c.as_mut_slice-nodes.ensures.value in
    subst (λ n. AreBlankLists n c.end_nodes.new.lists) (sym (ap length slice) ∙ c.requires.stands.1.has.nodes.many) c.in_ok-records.ensures.blank

pub returns-clause-world : goal.returns-clause-world
returns-clause-world g c = nodes-alone c.args.self.now _ _ _ c.self.view_is refl

pub invariant_of-self : goal.invariant_of-self
invariant_of-self g c = (c.self.invariant.0, λ knows. absurd (cc))

pub invariant_of-self-2 : goal.invariant_of-self-2
invariant_of-self-2 g c = (c.self.invariant.0, λ knows. absurd (cc))

pub end_nodes-requires-clause-some : goal.end_nodes-requires-clause-some
end_nodes-requires-clause-some g c lifetimes outlives =
    let slice : c.args.self.now.nodes ≡ c.as_mut_slice-nodes.result.now = ap (λ v. v.nodes) (sym c.self.view_is) ∙ ap nodes_in c.in-Some.is ∙ sym c.as_mut_slice-nodes.ensures.value in
    let long = ap length slice in
    let some = c.requires.stands.1.has.nodes.some in
    omega arith

pub returns-clause-busy : goal.returns-clause-busy
returns-clause-busy g c =
    let ended = c.in_ok-records.ensures.ended in
    let over = with_items_is c.in-Some.nodes c.end_nodes.new.nodes (ended.receives.many ∙ ended.commits.many ∙ ap length c.as_mut_slice-nodes.ensures.value ∙ sym c.in-Some.nodes.ok.0) in
    let B : List (NodeView _) → Type 0 = λ ns. NamesBusy ns c.end_nodes.new.lists.busy.items in
    subst B (sym over) c.in_ok-records.ensures.busy
