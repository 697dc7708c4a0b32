-- Who waits, and loses patience.
use Rattle.shop_draw_laws.proofs.PatienceLaw.{patience_is_drawn}
use Rattle.shop_draw_laws.proofs.TiringLaw.{nobody_outwaits}
use Rattle.shop_draw_laws.proofs.patience.law_patience.Goals as goal

pub returns : goal.returns
returns c = record { reneges = patience_is_drawn; waits = nobody_outwaits }
