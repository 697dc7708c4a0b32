use Rattle.std.proofs.Common.{◌+◌, ◌≤◌, length, vec_len}
use Rattle.std.specs.Prelude.{vec_capacity}
use Rattle.speedes_queue.specs.Queues.{pending_of}
use Rattle.node_core.proofs.ReadFacts.{IsReading}
use Rattle.node_core.proofs.waiting.put_all.Given as goal

abbrev pub invariant-loop-event : goal.invariant-loop-event
invariant-loop-event l = record {
  reading : IsReading l.fn.queue l.fn.into.items l.queue l.hand l.into.items;
  room : vec_len l.into + length (pending_of l.queue) ≤ vec_capacity l.into;
}

abbrev pub decreases-loop-event : goal.decreases-loop-event
decreases-loop-event l = length (pending_of l.queue)
