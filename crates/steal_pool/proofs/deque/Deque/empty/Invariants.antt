use Rattle.std.proofs.Common.{◌≡◌, ◌-◌}
use Rattle.crossbeam_deque.specs.Handles.{worker_deque, worker_flavor, worker_view}
use Rattle.steal_pool.specs.Tallies.{count}
use Rattle.steal_pool.specs.Turns.{Does}
use Rattle.steal_pool.proofs.deque.Deque.empty.Given as goal

abbrev pub invariant-loop-task : goal.invariant-loop-task
invariant-loop-task g l = record {
  deque : worker_deque l.self-inside.owner ≡ l.fn.self.deque;
  flavor : worker_flavor l.self-inside.owner ≡ 0;
  does : Does g.T.Turn.turned l.fn.self.knows (worker_view l.self-inside.owner) l.fn.done.items l.done.items;
}

abbrev pub decreases-loop-task : goal.decreases-loop-task
decreases-loop-task g l = count (worker_view l.self-inside.owner).put - count (worker_view l.self-inside.owner).taken
