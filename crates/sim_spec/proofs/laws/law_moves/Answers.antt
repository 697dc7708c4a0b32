-- A bucket moves the run, so cycles end.
use Rattle.sim_spec.proofs.CyclesLaw.{ends_law}
use Rattle.sim_spec.proofs.MovesLaw.{moves_law}
use Rattle.sim_spec.proofs.laws.law_moves.Goals as goal

pub returns-clause-moves : goal.returns-clause-moves
returns-clause-moves g c = moves_law (g.M.Model.meaning c.args.model.now) c.args.terms.now

pub returns-clause-ends : goal.returns-clause-ends
returns-clause-ends g c = ends_law (g.M.Model.meaning c.args.model.now) c.args.terms.now c.keeps_laws.ensures
