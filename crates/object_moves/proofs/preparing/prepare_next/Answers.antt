-- A move is prepared.
use Rattle.std.proofs.Common.{List, sym, ◌∙◌, subst}
use Rattle.std.specs.Arc.{arc_value}
use Rattle.node_core.specs.Homes.{HomesView, rehomed}
use Rattle.object_moves.specs.declared.step.Step.{Step}
use Rattle.object_moves.specs.Steps.{AreSteps, IsStep}
use Rattle.object_moves.proofs.PreparingLemmas.{steps-push}
use Rattle.object_moves.proofs.preparing.prepare_next.Goals as goal

pub returns-clause-steps : goal.returns-clause-steps
returns-clause-steps c first are =
    let h = arc_value c.args.homes in
    let p = c.in_ok-made.made.0 in
    let I : HomesView → Type 0 = λ h. IsStep c.args.places h p in
    let is : I h = subst I c.deref-2.ensures c.in_ok-made.ensures.step in
    let pushed = steps-push c.args.places first h c.args.steps.now.items p are is in
    let at = is.after ∙ (λ i. rehomed h (c.in_ok-made.ensures.object i) (c.in_ok-made.ensures.to i)) in
    let P : List Step → Type 0 = λ ps. AreSteps c.args.places first ps p.copies.homes in
    let Q : HomesView → Type 0 = λ k. AreSteps c.args.places first c.push.new.self.items k in
    subst Q at (subst P (sym c.in_ok-push.ensures.items) pushed)
