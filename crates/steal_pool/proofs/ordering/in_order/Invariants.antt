use Rattle.std.proofs.Common.{◌≡◌, ◌++◌, ◌<◌, ℕ, length}
use Rattle.std.specs.Prelude.{All, List, sum_by}
use Rattle.steal_pool.specs.Turns.{AreRight, IsDoneOf, IsFilled}
use Rattle.steal_pool.specs.Workers.{done_by}
use Rattle.steal_pool.proofs.ordering.in_order.Given as goal

abbrev pub invariant-loop-worker : goal.invariant-loop-worker
invariant-loop-worker g l = record {
  whole : l.yielded ++ l.worker-iterator.rest.items ≡ l.fn.workers.items;
  many : length l.places.items ≡ l.fn.count;
  filled : (number : ℕ) → 0 < sum_by (done_by number) l.yielded → IsFilled l.places.items number;
  right : (turns : List _) → All (λ worker. All (IsDoneOf g.T.Turn.turned turns) worker.done.items) l.yielded → AreRight g.T.Turn.turned turns l.places.items;
}
