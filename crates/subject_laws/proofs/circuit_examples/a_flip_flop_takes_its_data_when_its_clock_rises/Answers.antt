-- Both sides compute to the same.
use Rattle.std.proofs.Common.{refl}
use Rattle.subject_laws.specs.CircuitExamples.{to_nine, flip_flop, flip_flop_told}
use Rattle.subject_laws.proofs.Computing.{circuit_run}
use Rattle.subject_laws.proofs.circuit_examples.a_flip_flop_takes_its_data_when_its_clock_rises.Goals as goal

pub returns : goal.returns
unfolding to_nine flip_flop flip_flop_told circuit_run
returns c = refl
