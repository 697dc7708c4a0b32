use Rattle.shop_model.specs.declared.step.Step.TheVariants.{Visit, Free}
use Rattle.shop_model.proofs.StepLemmas.{step-within, visit-there}
use Rattle.shop_model.proofs.station_event.StationEvent.come.Goals as goal

pub arrive-requires-clause-visit : goal.arrive-requires-clause-visit
arrive-requires-clause-visit c =
    let at = c.args.self.now in
    let here = c.in-Some-Visit in
    visit-there at.routes.now c.args.job here.visit at.known_routes c.requires.job (rw here.field-0-is at here.ensures)

pub arrive-requires-clause-step : goal.arrive-requires-clause-step
arrive-requires-clause-step c =
    let at = c.args.self.now in
    let here = c.in-Some-Visit in
    step-within at.routes.now c.args.job (Visit here.visit) at.known_routes c.requires.job (rw here.field-0-is at here.ensures)

pub free-requires-clause-step : goal.free-requires-clause-step
free-requires-clause-step c =
    let at = c.args.self.now in
    let here = c.in-Some-Free in
    step-within at.routes.now c.args.job (Free here.field-0-0) at.known_routes c.requires.job (rw here.field-0-is at here.ensures)
