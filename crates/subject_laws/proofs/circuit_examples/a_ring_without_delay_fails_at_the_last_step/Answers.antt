-- Both sides compute to the same.
use Rattle.std.proofs.Common.{refl}
use Rattle.subject_laws.specs.CircuitExamples.{ring, fires_last}
use Rattle.subject_laws.proofs.Computing.{circuit_run}
use Rattle.subject_laws.proofs.circuit_examples.a_ring_without_delay_fails_at_the_last_step.Goals as goal

pub returns : goal.returns
unfolding ring fires_last circuit_run
returns c = refl
