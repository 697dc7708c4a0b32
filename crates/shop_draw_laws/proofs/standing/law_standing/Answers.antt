-- For how long services take.
use Rattle.shop_draw_laws.proofs.LagLaw.{lag_is_told}
use Rattle.shop_draw_laws.proofs.StandingLaw.{services_stand_still}
use Rattle.shop_draw_laws.proofs.standing.law_standing.Goals as goal

pub returns : goal.returns
returns c = record { services = services_stand_still; lag = lag_is_told }
