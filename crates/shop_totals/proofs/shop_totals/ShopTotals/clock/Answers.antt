use Rattle.std.proofs.Common.{◌∙◌, ap, sym}
use Rattle.sim_spec.specs.declared.stop.Stop.{Stop}
use Rattle.shop_totals.specs.ShopLines.{clock_of}
use Rattle.shop_totals.proofs.shop_totals.ShopTotals.clock.Goals as goal

pub returns-in-Limit : goal.returns-in-Limit
returns-in-Limit c p first records is = is.last ∙ sym (ap (λ (stop : Stop). clock_of c.args.terms.now records stop) c.in-Limit.is)
