use Rattle.tick_queue.proofs.QueueLemmas.{in_order-none, pending-none}
use Rattle.tick_queue.proofs.queue.TickQueue.new.Goals as goal

pub invariant_of-result : goal.invariant_of-result
invariant_of-result c = in_order-none c.new.result c.in_ok-new.field-0.events c.in_ok-new.field-0.tick c.new.ensures c.in_ok-new.ensures.none

pub returns-clause-pending : goal.returns-clause-pending
returns-clause-pending c = pending-none c.new.result c.in_ok-new.field-0.events c.new.ensures c.in_ok-new.ensures.none
