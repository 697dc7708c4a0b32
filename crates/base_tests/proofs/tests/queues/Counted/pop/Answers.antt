use Rattle.speedes_queue.proofs.SerialLemmas.{below_popped}
use Rattle.base_tests.proofs.tests.queues.Counted.pop.Goals as goal

pub invariant_of-self-2 : goal.invariant_of-self-2
invariant_of-self-2 c = below_popped _ c.self.inside.queue _ _ c.self.invariant c.in_ok-cell.ensures.least
