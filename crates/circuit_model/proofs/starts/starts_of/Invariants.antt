use Rattle.std.proofs.Common.{◌≡◌, ◌++◌, length}
use Rattle.circuit_model.specs.Starts.{computes_below, flips_below}
use Rattle.circuit_model.proofs.starts.starts_of.Given as goal

abbrev pub invariant-loop-number : goal.invariant-loop-number
invariant-loop-number l = l.starts.items ≡ computes_below l.gates (length l.gates) ++ flips_below l.gates l.number
