-- Nothing changes.
use Rattle.std.specs.Arc.{arc_value}
use Rattle.node_tests.proofs.DriveFacts.{keeps-equal}
use Rattle.node_tests.proofs.tests.nodes.driven.Driven.held.Goals as goal

pub invariant_of-self : goal.invariant_of-self
invariant_of-self g c = keeps-equal g.M.Model.meaning c.self.inside.node c.open_cycle.new.self (arc_value c.self.inside.homes) c.self.inside.keys.items c.self.inside.sent c.self.invariant c.open_cycle.ensures.same
