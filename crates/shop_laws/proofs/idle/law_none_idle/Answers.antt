-- No server idles while a job waits.
use Rattle.shop_laws.proofs.IdleLaw.{none_idle}
use Rattle.shop_laws.proofs.idle.law_none_idle.Goals as goal

pub returns : goal.returns
returns c = none_idle
