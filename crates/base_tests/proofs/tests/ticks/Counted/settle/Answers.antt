use Rattle.base_tests.proofs.CountedLemmas.{counted_left}
use Rattle.base_tests.proofs.tests.ticks.Counted.settle.Goals as goal

pub invariant_of-self : goal.invariant_of-self
invariant_of-self c = counted_left c.self.inside.next c.self.inside.queue c.settle.new.self c.self.invariant c.settle.ensures.left
