-- A bucket is exactly the pending events before its end.
use Rattle.sim_spec.proofs.HorizonLaw.{horizon_law}
use Rattle.sim_spec.proofs.laws.law_horizon.Goals as goal

pub returns : goal.returns
returns g c = horizon_law (g.M.Model.meaning c.args.model.now) c.args.terms.now
