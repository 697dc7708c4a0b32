-- Both sides compute to the same.
use Rattle.std.proofs.Common.{refl}
use Rattle.subject_laws.specs.CircuitExamples.{to_five, gates_in_line, line_told}
use Rattle.subject_laws.proofs.CircuitLemmas.ExampleCircuits.{gates_in_line-circuit}
use Rattle.subject_laws.proofs.Computing.{circuit_run}
use Rattle.subject_laws.proofs.circuit_examples.a_level_runs_through_gates.Goals as goal

pub returns-clause-circuit : goal.returns-clause-circuit
returns-clause-circuit c = gates_in_line-circuit

pub returns-clause-run : goal.returns-clause-run
unfolding to_five gates_in_line line_told circuit_run
returns-clause-run c = refl
