use Rattle.shop_model.proofs.StepLemmas.{served-within}
use Rattle.shop_model.proofs.station_event.StationEvent.done_here.Goals as goal

pub done-requires-clause-step : goal.done-requires-clause-step
done-requires-clause-step c =
    let at = c.args.self.now in
    served-within at.routes.now c.in-Some.job at.known_routes c.in-Some.ensures.there c.if-is_served.ensures
