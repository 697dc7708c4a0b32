-- A run has enough fuel.
use Rattle.sim_spec.proofs.RunEndsLemma.{run-ends}
use Rattle.sim_spec.proofs.laws.law_run_ends.Goals as goal

pub returns : goal.returns
returns g c = run-ends (g.M.Model.meaning c.args.model.now) c.args.terms.now
