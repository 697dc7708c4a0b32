-- Each object stays at its place, and all is carried.
use Rattle.std.specs.Arc.{arc_value}
use Rattle.node_core.proofs.LoggedFacts.{logged-still, none-homed}
use Rattle.node_core.proofs.logs.Logs.undo_from.Goals as goal

pub invariant_of-self : goal.invariant_of-self
invariant_of-self c =
    let homes = arc_value c.self.inside.homes in
    let new = c.undo_from.new.self in
    logged-still homes c.self.inside.log new c.self.inside.places.items c.undo_from.ensures.numbers c.undo_from.ensures.nodes
    (none-homed homes.homes new c.undo_from.ensures.carried.chained) c.self.invariant
