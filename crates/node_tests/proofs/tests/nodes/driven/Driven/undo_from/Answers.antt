-- Events are undone.
use Rattle.std.specs.Arc.{arc_value}
use Rattle.node_tests.proofs.DriveFacts.{keeps-undone}
use Rattle.node_tests.proofs.tests.nodes.driven.Driven.undo_from.Goals as goal

pub invariant_of-self : goal.invariant_of-self
invariant_of-self g c =
    keeps-undone g.M.Model.meaning c.self.inside.node c.undo_from-undone.new.self (arc_value c.self.inside.homes) c.self.inside.keys.items c.self.inside.sent c.self.invariant c.args.horizon c.undo_from-undone.result
    c.undo_from-undone.ensures c.tells_share.ensures.stands c.tells_share.ensures.size c.tells_share-2.ensures.only c.tells_share-2.ensures.size
