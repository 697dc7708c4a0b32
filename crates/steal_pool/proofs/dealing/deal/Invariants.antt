use Rattle.std.proofs.Common.{◌≡◌, ◌≤◌, drop, length}
use Rattle.steal_pool.specs.Workers.{AreInRound}
use Rattle.steal_pool.proofs.DealLemmas.{Dealing}
use Rattle.steal_pool.proofs.dealing.deal.Given as goal

abbrev pub invariant-loop-number : goal.invariant-loop-number
invariant-loop-number g l = record {
  left : l.number-iterator.iter.rest.items ≡ drop l.number-iterator.count l.fn.turns.items;
  within : l.number-iterator.count ≤ length l.fn.turns.items;
  many : length l.deques.items ≡ l.fn.workers;
  dealing : Dealing l.fn.turns.items l.number-iterator.count l.deques.items;
  round : AreInRound l.fn.workers l.deques.items;
}
