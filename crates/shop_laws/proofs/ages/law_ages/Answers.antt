-- For how long jobs are inside.
use Rattle.shop_laws.proofs.AgeLaw.{ages_add_up}
use Rattle.shop_laws.proofs.ages.law_ages.Goals as goal

pub returns : goal.returns
returns c = ages_add_up
