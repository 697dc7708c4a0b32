use Rattle.speedes_queue.proofs.SerialLemmas.{below_popped}
use Rattle.measures.proofs.queue.hold.Goals as goal

pub push-requires-in-loop-serial-2-clause-below : goal.push-requires-in-loop-serial-2-clause-below
push-requires-in-loop-serial-2-clause-below c = below_popped _ c.loop-serial-2.queue _ _ c.loop-serial-2.invariant c.in-Some.ensures.least
