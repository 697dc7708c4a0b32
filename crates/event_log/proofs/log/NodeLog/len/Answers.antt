-- One event stands for one item.
use Rattle.std.proofs.Common.{length, sym, ap, ◌∙◌}
use Rattle.std.proofs.lemmas.List.{length-map}
use Rattle.object_log.specs.Carrying.{Placed}
use Rattle.object_log.specs.EventLogs.{EventLogView}
use Rattle.event_log.specs.NodeLogs.{NodeLogView}
use Rattle.event_log.proofs.log.NodeLog.len.Goals as goal

pub returns : goal.returns
returns c =
    c.len.ensures
    ∙ sym (length-map c.self.inside.events.items (λ (p : Placed). p.done))
    ∙ ap (λ (v : EventLogView). length v.done) (ap (λ (v : NodeLogView). v.log) c.self.view_is)
