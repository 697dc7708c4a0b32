-- Each object stays at its place.
use Rattle.std.specs.Arc.{arc_value}
use Rattle.node_core.proofs.LoggedFacts.{logged-still}
use Rattle.node_core.proofs.logs.Logs.back_to.Goals as goal

pub invariant_of-self : goal.invariant_of-self
invariant_of-self c =
    let homes = arc_value c.self.inside.homes in
    logged-still homes c.self.inside.log c.back_to.new.self c.self.inside.places.items c.back_to.ensures.back.changes.numbers c.back_to.ensures.nodes
    (c.back_to.ensures.homed homes.homes c.self.invariant.homed) c.self.invariant
