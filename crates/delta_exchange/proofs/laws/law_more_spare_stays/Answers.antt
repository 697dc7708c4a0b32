use Rattle.delta_exchange.proofs.Room.{more_spare_stays}
use Rattle.delta_exchange.proofs.laws.law_more_spare_stays.Goals as goal

pub returns : goal.returns
returns c = more_spare_stays
