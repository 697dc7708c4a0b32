-- Totals from a tick on.
use Rattle.shop_draw_laws.proofs.FromLaw.{totals_from}
use Rattle.shop_draw_laws.proofs.from.law_from.Goals as goal

pub returns : goal.returns
returns c = totals_from
