-- If the last cycle has named them, the names are those in the lists.
use Rattle.std.proofs.Common.{◌≡◌, ◌∙◌, ℕ, List, ap, sym, subst}
use Rattle.std.specs.Prelude.{IfSome}
use Rattle.node_core.specs.Nodes.{NodeView}
use Rattle.cycle_core.specs.Busy.{NamesBusy}
use Rattle.cycle_core.specs.Inside.{nodes_in}
use Rattle.cycle_core.proofs.world.World.find_busy.Goals as goal

pub returns-clause-busy : goal.returns-clause-busy
returns-clause-busy g c =
    let named = subst (λ l. IfSome l (λ lists. NamesBusy (nodes_in c.self.inside.nodes) lists.value.busy.items)) (sym c.take.ensures.value ∙ c.in-Some.is) (c.self.invariant.1 c.if-not-self.false) in
    let kept : c.swap.new.y ≡ c.in-Some.lists.value.busy = c.swap.ensures.y_after ∙ ap (λ l. l.busy) c.deref_mut.ensures.value in
    let P : List ℕ → Type 0 = NamesBusy c.args.self.now.nodes in
    let B : List (NodeView _) → Type 0 = λ ns. NamesBusy ns c.in-Some.lists.value.busy.items in
    subst P (sym (ap (λ v. v.items) kept)) (subst B (ap (λ v. v.nodes) c.self.view_is) named)

pub returns-clause-same : goal.returns-clause-same
returns-clause-same g c = c.self.view_is
