use Rattle.std.proofs.Common.{◌≡◌, ◌+◌, ℕ, drop, map}
use Rattle.std.specs.Prelude.{All, sum_by}
use Rattle.steal_pool.specs.Ends.{mark, parts}
use Rattle.steal_pool.specs.Workers.{HasGotBack, own_mark, own_taken, taken_at}
use Rattle.steal_pool.proofs.PlaceLemmas.{Upto}
use Rattle.steal_pool.proofs.gathering.give_back.Given as goal

abbrev pub invariant-loop-place : goal.invariant-loop-place
invariant-loop-place g l = record {
  upto : Upto HasGotBack l.place-iterator.count l.fn.workers.items l.workers.items;
  to : map mark l.place-iterator.iter.rest.items ≡ drop l.place-iterator.count (map own_mark l.fn.workers.items);
  one : All (λ many. many ≡ 1) (map parts l.place-iterator.iter.rest.items);
  counted : (number : ℕ) → sum_by (own_taken number) l.workers.items + sum_by (taken_at number) l.place-iterator.iter.rest.items
      ≡ sum_by (own_taken number) l.fn.workers.items + sum_by (taken_at number) l.fn.victims.items;
}
