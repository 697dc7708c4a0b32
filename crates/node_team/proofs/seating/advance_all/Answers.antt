use Rattle.std.proofs.Common.{get_or, subst}
use Rattle.node_team.specs.declared.seating.Seated.{Seated}
use Rattle.node_team.specs.Turns.{HasGone}
use Rattle.node_team.proofs.ForkLemmas.{each-zip}
use Rattle.node_team.proofs.seating.advance_all.Goals as goal

pub returns : goal.returns
returns g c =
    let R : Seated _ → Seated _ → Type 0 = HasGone g.M.Model.meaning c.args.word.now c.args.setting.now.ahead in
    each-zip R c.args.all.now c.for_each_mut.new.s c.for_each_mut.auto.s (λ i d below.
    let change = (c.for_each_mut.ensures i d below).1 in
    subst (R (get_or c.args.all.now i d)) change.left (subst (λ x. R x change.after_call.now) change.argument_is change.call))
