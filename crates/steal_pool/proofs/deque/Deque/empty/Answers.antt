use Rattle.std.proofs.Common.{arith, rules}
use Rattle.steal_pool.proofs.RuleLemmas.{takes, finds}
use Rattle.steal_pool.proofs.DoesLemmas.{does-more, next-ready}
use Rattle.steal_pool.proofs.deque.Deque.empty.Goals as goal

pub pop_as-requires-clause-fifo : goal.pop_as-requires-clause-fifo
pop_as-requires-clause-fifo g c _ = takes _ _ (let parts = c.loop-task.invariant.does.parts in omega arith)

pub pop_as-requires-clause-empty : goal.pop_as-requires-clause-empty
pop_as-requires-clause-empty g c = finds _ _

pub run-requires-after_bounds : goal.run-requires-after_bounds
run-requires-after_bounds g c κs within =
    next-ready g.T.Turn.turned g.T.Turn.ready _ _ _ _ _ c.in-Some.task c.loop-task.invariant.does c.requires.ready c.in-Some.ensures.rule

pub loop-task-preserved : goal.loop-task-preserved
loop-task-preserved g c = record {
  deque = search rules;
  flavor = search rules;
  does = does-more g.T.Turn.turned _ _ _ _ _ _ c.in-Some.task c.run.result c.loop-task.invariant.does c.in-Some.ensures.rule c.run.ensures.number c.run.ensures.turned c.in_ok-push.ensures.items;
}
