-- The records of a run are in ascending order.
use Rattle.run_laws.proofs.OrderLaw.{records_ascend}
use Rattle.run_laws.proofs.laws.law_order.Goals as goal

pub returns : goal.returns
returns g c = records_ascend (g.M.Model.meaning c.args.model.now) c.args.terms.now c.keeps_laws.ensures
