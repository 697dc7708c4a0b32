use Rattle.std.proofs.Common.{arith}
use Rattle.circuit_model.specs.Wired.{Lists-empty}
use Rattle.circuit_model.proofs.wiring.blank.Goals as goal

pub returns : goal.returns
returns c = Lists-empty c.args.gates.now c.loop.feeds.items (omega arith) c.loop.invariant.1
