use Rattle.model_text.proofs.CircuitParts.{fan_out-passes, fan_out-stops}
use Rattle.model_text.proofs.circuits.fan_out.Goals as goal

pub returns-in-Some-clause-read : goal.returns-in-Some-clause-read
returns-in-Some-clause-read c = rw c.at.ensures (fan_out-stops c.args.gates.now c.in-Some.number (rw c.in-Some.is at c.in_ok-number.ensures))

pub returns-in-None-clause-read : goal.returns-in-None-clause-read
returns-in-None-clause-read c = fan_out-passes c.args.gates.now (rw c.in-None.is at c.in_ok-number.ensures)
