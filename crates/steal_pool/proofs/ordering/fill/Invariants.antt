use Rattle.std.proofs.Common.{◌≡◌, ◌++◌}
use Rattle.steal_pool.proofs.OrderLemmas.{Filling}
use Rattle.steal_pool.proofs.ordering.fill.Given as goal

abbrev pub invariant-loop-task : goal.invariant-loop-task
invariant-loop-task g l = record {
  whole : l.yielded ++ l.task-iterator.rest.items ≡ l.fn.tasks.items;
  filling : Filling g.T.Turn.turned l.yielded l.fn.places.items l.places.items;
}
