-- For how long servers are busy.
use Rattle.shop_laws.proofs.TimeLaw.{utilisation_law}
use Rattle.shop_laws.proofs.utilisation.law_utilisation.Goals as goal

pub returns : goal.returns
returns c = utilisation_law
