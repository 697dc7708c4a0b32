use Rattle.std.proofs.Common.{◌≡◌, ◌-◌, ◌≤◌, length, map, vec_len}
use Rattle.std.specs.Prelude.{All, vec_capacity}
use Rattle.steal_pool.specs.Tallies.{WHOLE}
use Rattle.steal_pool.specs.Ends.{IsFresh, mark}
use Rattle.steal_pool.specs.Workers.{AreNew}
use Rattle.steal_pool.proofs.hiring.all_passes.Given as goal

abbrev pub invariant-loop : goal.invariant-loop
invariant-loop g l = record {
  marks : map mark l.deques ≡ map mark l.fn.deques;
  many : vec_len l.lists ≡ l.counter;
  room : length l.fn.deques ≤ vec_capacity l.lists;
  passes : All (λ victims. AreNew (map mark l.fn.deques) victims.items) l.lists.items;
  left : All (IsFresh (WHOLE - l.counter)) l.deques;
}
