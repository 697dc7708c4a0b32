use Rattle.std.proofs.Common.{ℕ, ◌<◌}
use Rattle.circuit_model.specs.Parts.{FeedsFew}
use Rattle.circuit_model.proofs.fan_out.first_overloaded.Given as goal

abbrev pub invariant-loop-number : goal.invariant-loop-number
invariant-loop-number l = (earlier : ℕ) → earlier < l.number → FeedsFew l.gates earlier
