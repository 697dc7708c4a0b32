-- The items have the events.
use Rattle.std.proofs.Common.{map, sym, ap, ◌∙◌}
use Rattle.object_log.specs.Carrying.{Placed}
use Rattle.object_log.specs.Logs.{fault_of}
use Rattle.event_log.specs.Items.{CarriedView}
use Rattle.event_log.proofs.carried.Carried.faulted.Goals as goal

pub returns-then-self : goal.returns-then-self
returns-then-self c = c.fault_in.ensures ∙ ap (λ (v : CarriedView). fault_of (map (λ (p : Placed). p.done) v.items)) c.self.view_is

pub returns-else-self : goal.returns-else-self
returns-else-self c = sym (c.self.invariant.2 c.if-self.false) ∙ ap (λ (v : CarriedView). fault_of (map (λ (p : Placed). p.done) v.items)) c.self.view_is
