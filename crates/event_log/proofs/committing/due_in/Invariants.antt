-- All so far are due.
use Rattle.std.proofs.Common.{take}
use Rattle.std.specs.List.{AllByRecursion as Each}
use Rattle.object_log.specs.Whole.{dones_in}
use Rattle.event_log.proofs.DueFacts.{Due}
use Rattle.event_log.proofs.committing.due_in.Given as goal

abbrev pub invariant-loop-place : goal.invariant-loop-place
invariant-loop-place l = Each (Due l.horizon l.cut) (take l.place (dones_in l.carried.items))
