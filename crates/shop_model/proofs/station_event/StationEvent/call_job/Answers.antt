use Rattle.shop_model.proofs.StepLemmas.{step-within, visit-there}
use Rattle.shop_model.specs.declared.step.Step.TheVariants.{Visit}
use Rattle.shop_model.proofs.station_event.StationEvent.call_job.Goals as goal

pub begin_entry-requires-clause-visit : goal.begin_entry-requires-clause-visit
begin_entry-requires-clause-visit c =
    let at = c.args.self.now in
    let here = c.in-Some-Visit in
    visit-there at.routes.now c.in-Some.job here.visit at.known_routes c.in-Some.ensures.there (rw here.field-0-is at here.ensures)

pub begin_entry-requires-clause-step : goal.begin_entry-requires-clause-step
begin_entry-requires-clause-step c =
    let at = c.args.self.now in
    let here = c.in-Some-Visit in
    step-within at.routes.now c.in-Some.job (Visit here.visit) at.known_routes c.in-Some.ensures.there (rw here.field-0-is at here.ensures)
