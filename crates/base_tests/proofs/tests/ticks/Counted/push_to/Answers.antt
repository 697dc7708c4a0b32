use Rattle.base_tests.proofs.CountedLemmas.{counted_new, counted_pushed}
use Rattle.base_tests.proofs.tests.ticks.Counted.push_to.Goals as goal

pub push-requires-clause-new_key : goal.push-requires-clause-new_key
push-requires-clause-new_key c = counted_new c.self.inside.next c.self.inside.queue c.event.result c.self.invariant c.event.ensures.src c.event.ensures.serial

pub invariant_of-self-2 : goal.invariant_of-self-2
invariant_of-self-2 c = counted_pushed c.self.inside.next c.self.inside.queue c.push.new.self c.event.result c.self.invariant c.event.ensures.serial c.in_ok-push.ensures.pending
