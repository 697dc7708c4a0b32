use Rattle.std.proofs.Common.{arith, ◌+◌}
use Rattle.node_team.proofs.SeatingLemmas.{floor-least, floor-none}
use Rattle.node_team.proofs.floor.lower_floor.Goals as goal

pub returns-in-Some-clause-floor : goal.returns-in-Some-clause-floor
returns-in-Some-clause-floor g c object at = floor-least (g.M.Model.meaning c.args.node.now.model) c.args.node.now c.in-Some.key (c.in-Some.key.stamp + 1) c.in-Some.ensures (omega arith) object at

pub returns-in_default-clause-floor : goal.returns-in_default-clause-floor
returns-in_default-clause-floor g c object at = floor-least (g.M.Model.meaning c.args.node.now.model) c.args.node.now c.in-Some.key c.args.floor c.in-Some.ensures (omega arith) object at

pub returns-in_default-2-clause-floor : goal.returns-in_default-2-clause-floor
returns-in_default-2-clause-floor g c object at = floor-none (g.M.Model.meaning c.args.node.now.model) c.args.node.now c.args.floor c.know.ensures c.in_default.ensures object at
