use Rattle.base_tests.proofs.CountedLemmas.{counted_none}
use Rattle.base_tests.proofs.tests.ticks.Counted.new.Goals as goal

pub invariant_of-result : goal.invariant_of-result
invariant_of-result c = counted_none c.in_ok-new.field-0 c.in_ok-new.ensures.pending
