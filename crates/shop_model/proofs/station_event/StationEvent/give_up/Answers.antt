use Rattle.shop_model.proofs.StepLemmas.{visit-there}
use Rattle.shop_model.proofs.station_event.StationEvent.give_up.Goals as goal

pub renege-requires-clause-visit : goal.renege-requires-clause-visit
renege-requires-clause-visit c =
    let at = c.args.self.now in
    let here = c.in-Some-Visit in
    visit-there at.routes.now c.in-Some.job here.visit at.known_routes c.in-Some.ensures.there (rw here.field-0-is at here.ensures)
