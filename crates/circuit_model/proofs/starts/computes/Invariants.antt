use Rattle.std.proofs.Common.{◌≡◌}
use Rattle.circuit_model.specs.Starts.{computes_below}
use Rattle.circuit_model.proofs.starts.computes.Given as goal

abbrev pub invariant-loop-number : goal.invariant-loop-number
invariant-loop-number l = l.starts.items ≡ computes_below l.gates l.number
