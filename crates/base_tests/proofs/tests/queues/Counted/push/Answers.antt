use Rattle.speedes_queue.proofs.SerialLemmas.{below_pushed, below_same, new_below}
use Rattle.base_tests.proofs.tests.queues.Counted.push.Goals as goal

pub push-requires-clause-new_key : goal.push-requires-clause-new_key
push-requires-clause-new_key c =
    new_below c.self.inside.next c.reserve.new.self c.in_ok-cell.cell
    (below_same c.self.inside.next c.self.inside.queue c.reserve.new.self c.self.invariant c.in_ok-reserve.ensures.primary c.in_ok-reserve.ensures.fresh)
    c.in_ok-cell.ensures

pub invariant_of-self-2 : goal.invariant_of-self-2
invariant_of-self-2 c =
    below_pushed c.self.inside.next c.reserve.new.self _ c.in_ok-cell.cell
    (below_same c.self.inside.next c.self.inside.queue c.reserve.new.self c.self.invariant c.in_ok-reserve.ensures.primary c.in_ok-reserve.ensures.fresh)
    c.in_ok-cell.ensures c.push.ensures.primary c.push.ensures.fresh
