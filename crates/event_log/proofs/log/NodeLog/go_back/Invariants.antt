use Rattle.sim_spec.specs.Firing.{ObjectState}
use Rattle.object_log.proofs.BackToLemmas.{IsBackTo}
use Rattle.event_log.specs.NodeLogs.{IsStillCarried}
use Rattle.event_log.proofs.log.NodeLog.go_back.Given as goal

abbrev pub invariant-loop-index : goal.invariant-loop-index
invariant-loop-index l = record {
  was : ObjectState;
  back : IsBackTo l.object l.key l.fn.self.log l.self.log l.index l.into l.count was;
  carried : IsStillCarried l.fn.self l.self;
}

abbrev pub decreases-loop-index : goal.decreases-loop-index
decreases-loop-index l = l.index
