-- Those that were popped stand in one of the two chains.
use Rattle.std.proofs.Common.{length}
use Rattle.speedes_queue.specs.Queues.{pending_of}
use Rattle.node_core.proofs.MovingWaits.{IsParting}
use Rattle.node_core.proofs.waiting.take_events.Given as goal

abbrev pub invariant-loop-event : goal.invariant-loop-event
invariant-loop-event l = IsParting l.fn.object l.fn.queue l.queue l.own l.others

abbrev pub decreases-loop-event : goal.decreases-loop-event
decreases-loop-event l = length (pending_of l.queue)
