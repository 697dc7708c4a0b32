-- Who is called first.
use Rattle.shop_laws.proofs.OrderLaw.{calls_in_order, takes_in_order, joined_in_order}
use Rattle.shop_laws.proofs.order.law_order.Goals as goal

pub returns : goal.returns
returns c = record { calls = calls_in_order; takes = takes_in_order; joined = joined_in_order }
