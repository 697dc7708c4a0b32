-- For how long jobs wait.
use Rattle.shop_laws.proofs.TimeLaw.{little_law}
use Rattle.shop_laws.proofs.little.law_little.Goals as goal

pub returns : goal.returns
returns c = little_law
