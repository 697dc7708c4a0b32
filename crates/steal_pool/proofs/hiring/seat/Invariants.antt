use Rattle.std.proofs.Common.{◌≡◌, ◌+◌, ◌≤◌, ◌++◌, length, map, vec_len}
use Rattle.std.specs.Prelude.{All, vec_capacity}
use Rattle.steal_pool.specs.Ends.{mark}
use Rattle.steal_pool.specs.Workers.{AreNew, IsHired, own_mark}
use Rattle.steal_pool.proofs.hiring.seat.Given as goal

abbrev pub invariant-loop-deque : goal.invariant-loop-deque
invariant-loop-deque g l = record {
  whole : l.yielded ++ l.deque-iterator.rest.items ≡ l.fn.deques.items;
  marks : map own_mark l.workers.items ≡ map mark l.yielded;
  passes : All (λ victims. AreNew (map mark l.fn.deques.items) victims.items) l.lists.items;
  many : length l.lists.items ≡ length l.deque-iterator.rest.items;
  room : vec_len l.workers + length l.deque-iterator.rest.items ≤ vec_capacity l.workers;
  each : All (IsHired (map mark l.fn.deques.items)) l.workers.items;
}
