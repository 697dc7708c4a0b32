-- A simulation begins in a lawful state.
use Rattle.sim_spec.proofs.InitialLemmas.{initial_state-lawful}
use Rattle.sim_spec.proofs.laws.law_initial.Goals as goal

pub returns : goal.returns
returns g c = initial_state-lawful (g.M.Model.meaning c.args.model.now) c.args.terms.now c.keeps_laws.ensures
