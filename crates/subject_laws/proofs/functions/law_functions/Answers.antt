-- Circuits compute functions.
use Rattle.subject_laws.proofs.CircuitLemmas.FunctionLaw.{computes, inputs_decide}
use Rattle.subject_laws.proofs.functions.law_functions.Goals as goal

pub returns-clause-computed : goal.returns-clause-computed
returns-clause-computed c = computes

pub returns-clause-decided : goal.returns-clause-decided
returns-clause-decided c = inputs_decide
