-- Each object draws from its own stream.
use Rattle.shop_draw_laws.proofs.DrawsLaw.{places_follow, values_are_drawn}
use Rattle.shop_draw_laws.proofs.draws.law_draws.Goals as goal

pub returns : goal.returns
returns c = record { places = places_follow; values = values_are_drawn }
