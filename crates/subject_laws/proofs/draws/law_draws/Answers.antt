-- Each object draws from its own stream.
use Rattle.subject_laws.proofs.DrawLemmas.DrawsLaw.{draws_own, draws_stay}
use Rattle.subject_laws.proofs.draws.law_draws.Goals as goal

pub returns-clause-own : goal.returns-clause-own
returns-clause-own c = draws_own

pub returns-clause-stay : goal.returns-clause-stay
returns-clause-stay c = draws_stay
