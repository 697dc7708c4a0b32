-- Each object stays at its place.
use Rattle.std.proofs.Common.{ℕ, List, sym, ap, subst}
use Rattle.std.specs.Arc.{arc_value}
use Rattle.model_core.specs.declared.event.Event.{Event}
use Rattle.event_log.specs.NodeLogs.{NodeLogView}
use Rattle.event_log.specs.Processing.{AreHomed}
use Rattle.node_core.proofs.LoggedFacts.{logged-still}
use Rattle.node_core.proofs.logs.Logs.set.Goals as goal

pub invariant_of-self : goal.invariant_of-self
invariant_of-self c =
    let homes = arc_value c.self.inside.homes in
    let same = c.set.ensures.same in
    let H : List (ℕ × Event) → Type 0 = AreHomed homes.homes in
    logged-still homes c.self.inside.log c.set.new.self c.self.inside.places.items c.set.ensures.numbers (ap (λ (v : NodeLogView). v.nodes) same)
    (subst H (sym (ap (λ (v : NodeLogView). v.chained) same)) c.self.invariant.homed) c.self.invariant
