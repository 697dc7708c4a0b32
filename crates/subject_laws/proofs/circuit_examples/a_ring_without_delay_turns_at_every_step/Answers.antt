-- Both sides compute to the same.
use Rattle.std.proofs.Common.{refl}
use Rattle.subject_laws.specs.CircuitExamples.{to_three_events, ring, ring_told}
use Rattle.subject_laws.proofs.CircuitLemmas.ExampleCircuits.{ring-circuit}
use Rattle.subject_laws.proofs.Computing.{circuit_run}
use Rattle.subject_laws.proofs.circuit_examples.a_ring_without_delay_turns_at_every_step.Goals as goal

pub returns-clause-circuit : goal.returns-clause-circuit
returns-clause-circuit c = ring-circuit

pub returns-clause-run : goal.returns-clause-run
unfolding to_three_events ring ring_told circuit_run
returns-clause-run c = refl
