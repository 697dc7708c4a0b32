-- What is true of the objects and the items.
use Rattle.std.proofs.Common.{ap, subst}
use Rattle.object_log.specs.Objects.{AreSound}
use Rattle.event_log.specs.NodeLogs.{NodeLogView}
use Rattle.event_log.proofs.SoundFacts.{sound-log}
use Rattle.event_log.proofs.log.NodeLog.tells.Goals as goal

pub returns : goal.returns
returns c = subst AreSound (ap (λ (v : NodeLogView). v.log) c.self.view_is) (sound-log c.self.inside.objects.items c.self.inside.events.items c.self.invariant.0)
