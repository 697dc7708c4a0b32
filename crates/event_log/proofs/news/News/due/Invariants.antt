-- No event from here on is due.
use Rattle.std.proofs.Common.{◌≤◌, drop, length}
use Rattle.std.specs.List.{AllByRecursion as Each}
use Rattle.event_log.proofs.DueFacts.{NotDue}
use Rattle.event_log.proofs.news.News.due.Given as goal

abbrev pub invariant-loop-due : goal.invariant-loop-due
invariant-loop-due l = record {
  within : l.due ≤ length l.self.done;
  rest : Each (NotDue l.horizon l.cut) (drop l.due l.self.done);
}

abbrev pub decreases-loop-due : goal.decreases-loop-due
decreases-loop-due l = l.due
