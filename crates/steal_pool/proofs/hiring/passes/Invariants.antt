use Rattle.std.proofs.Common.{◌≡◌, ◌≤◌, length, map, take, vec_len}
use Rattle.std.specs.Prelude.{All, vec_capacity}
use Rattle.steal_pool.specs.Ends.{IsFresh, mark, without_part}
use Rattle.steal_pool.proofs.PlaceLemmas.{Upto}
use Rattle.steal_pool.proofs.hiring.passes.Given as goal

abbrev pub invariant-loop-deque : goal.invariant-loop-deque
invariant-loop-deque g l = record {
  upto : Upto (λ old new. new ≡ without_part old) l.deque-index l.fn.deques l.deques;
  marks : map mark l.deques ≡ map mark l.fn.deques;
  to : map mark l.victims.items ≡ take l.deque-index (map mark l.fn.deques);
  fresh : All (IsFresh 1) l.victims.items;
  many : vec_len l.victims ≡ l.deque-index;
  room : length l.fn.deques ≤ vec_capacity l.victims;
}
