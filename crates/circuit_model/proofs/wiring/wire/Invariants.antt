use Rattle.circuit_model.specs.Wiring.{Lists, pins_below}
use Rattle.circuit_model.proofs.wiring.wire.Given as goal

abbrev pub invariant-loop-number : goal.invariant-loop-number
invariant-loop-number l = Lists l.gates l.feeds.items (pins_below l.gates l.number)
