-- The items hold what the events do.
use Rattle.std.proofs.Common.{ap, ◌∙◌}
use Rattle.event_key.specs.declared.stamp.TheConstants.{NO_STAMP}
use Rattle.key_order.specs.Stamps.{least_stamp}
use Rattle.object_log.specs.EventLogs.{EventLogView}
use Rattle.object_log.specs.Logs.{held_of}
use Rattle.event_log.specs.NodeLogs.{NodeLogView}
use Rattle.event_log.proofs.log.NodeLog.held_least.Goals as goal

pub returns : goal.returns
returns c = c.held_least.ensures ∙ ap (λ (v : EventLogView). least_stamp NO_STAMP (held_of v.done)) (ap (λ (v : NodeLogView). v.log) c.self.view_is)
