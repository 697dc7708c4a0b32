-- A step is made, or the node is idle.
use Rattle.std.proofs.Common.{arith}
use Rattle.std.specs.Arc.{arc_value}
use Rattle.node_tests.proofs.DriveFacts.{driven-few, keeps-same, keeps-step}
use Rattle.node_tests.proofs.tests.nodes.driven.Driven.next_step.Goals as goal

pub step-requires-clause-sent : goal.step-requires-clause-sent
step-requires-clause-sent g c lifetimes within =
    driven-few (g.M.Model.meaning c.self.inside.node.model) c.self.inside.node c.self.inside.keys.items c.self.inside.sent c.self.invariant.1 c.tells_sent.ensures c.tells_keys.ensures (omega arith) (omega arith)

pub invariant_of-self : goal.invariant_of-self
invariant_of-self g c =
    keeps-same g.M.Model.meaning c.self.inside.node c.step.new.self (arc_value c.self.inside.homes) c.self.inside.keys.items c.self.inside.sent c.self.invariant c.in_err-step.ensures.err

pub invariant_of-self-2 : goal.invariant_of-self-2
invariant_of-self-2 g c =
    keeps-step g.M.Model.meaning c.self.inside.node c.step.new.self (arc_value c.self.inside.homes) c.self.inside.keys.items c.self.inside.sent c.self.invariant _ c.in_ok-step.step c.in_ok-step.ensures.ok
