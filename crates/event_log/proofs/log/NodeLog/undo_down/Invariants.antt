use Rattle.std.proofs.Common.{◌≡◌, length, map}
use Rattle.object_log.specs.EventLogs.{ObjectView}
use Rattle.object_log.proofs.UndoneLemmas.{IsBackFrom}
use Rattle.event_log.specs.NodeLogs.{IsStillCarried}
use Rattle.event_log.proofs.log.NodeLog.undo_down.Given as goal

abbrev pub invariant-loop-self : goal.invariant-loop-self
invariant-loop-self l = record {
  back : IsBackFrom l.horizon l.initial.self.log l.self.log l.into l.count;
  numbers : map (λ (o : ObjectView). o.object) l.self.log.objects ≡ map (λ (o : ObjectView). o.object) l.initial.self.log.objects;
  carried : IsStillCarried l.initial.self l.self;
}

abbrev pub decreases-loop-self : goal.decreases-loop-self
decreases-loop-self l = length l.self.log.done
