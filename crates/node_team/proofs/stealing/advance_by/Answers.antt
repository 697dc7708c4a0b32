use Rattle.std.proofs.Common.{subst}
use Rattle.node_team.specs.declared.seating.Seated.{Seated}
use Rattle.node_team.specs.Turns.{HasGone}
use Rattle.node_team.proofs.ForkLemmas.{zip-into, if-ok}
use Rattle.node_team.proofs.stealing.advance_by.Goals as goal

pub returns : goal.returns
returns g c =
    let R : Seated _ → Seated _ → Type 0 = HasGone g.M.Model.meaning c.args.word.now c.args.setting.now.ahead in
    if-ok c.run_each.result
    (λ now all. zip-into _ R (λ old new change. subst (R old) change.left (subst (λ x. R x change.after_call.now) change.argument_is change.call)) c.args.all.items now.items all) c.run_each.ensures
