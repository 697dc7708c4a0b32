use Rattle.shop_model.specs.declared.step.Step.TheVariants.{Delay}
use Rattle.shop_model.proofs.StepLemmas.{branch-there, law-there, step-within}
use Rattle.shop_model.proofs.class_event.ClassEvent.come.Goals as goal

pub stay-requires-clause-law : goal.stay-requires-clause-law
stay-requires-clause-law c =
    let at = c.args.self.now in
    let here = c.in-Some-Delay in
    law-there at.routes.now c.args.job here.law at.known_routes c.requires.job (rw here.field-0-is at here.ensures)

pub stay-requires-clause-step : goal.stay-requires-clause-step
stay-requires-clause-step c =
    let at = c.args.self.now in
    let here = c.in-Some-Delay in
    step-within at.routes.now c.args.job (Delay here.law) at.known_routes c.requires.job (rw here.field-0-is at here.ensures)

pub go_to_drawn_step-requires-clause-branch : goal.go_to_drawn_step-requires-clause-branch
go_to_drawn_step-requires-clause-branch c =
    let at = c.args.self.now in
    let here = c.in-Some-Go in
    branch-there at.routes.now c.args.job here.branch at.known_routes c.requires.job (rw here.field-0-is at here.ensures)
