-- The items have the events.
use Rattle.std.proofs.Common.{ap, ◌∙◌}
use Rattle.object_log.specs.Logs.{fault_of}
use Rattle.event_log.specs.NodeLogs.{NodeLogView}
use Rattle.event_log.proofs.log.NodeLog.faulted.Goals as goal

pub returns : goal.returns
returns c = c.faulted.ensures ∙ ap (λ (v : NodeLogView). fault_of v.log.done) c.self.view_is
