-- The input feeds a pin of each of the nine.
use Rattle.std.proofs.Common.{arith}
use Rattle.circuit_model.specs.Wiring.{pins_below, fed_among}
use Rattle.subject_laws.specs.CircuitExamples.{nine_fed}
use Rattle.subject_laws.proofs.circuit_examples.nine_pins_are_too_many.Goals as goal

pub returns : goal.returns
unfolding nine_fed pins_below fed_among
returns c circuit = absurd (omega (arith, circuit.fan_out 0 (omega arith)))
