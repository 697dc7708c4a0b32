use Rattle.std.proofs.Common.{◌≡◌, ◌≤◌, [], vec_len}
use Rattle.std.specs.Prelude.{All, vec_capacity}
use Rattle.steal_pool.specs.Tallies.{tally, WHOLE}
use Rattle.steal_pool.proofs.dealing.empty_deques.Given as goal

abbrev pub invariant-loop : goal.invariant-loop
invariant-loop g l = (vec_len l.deques ≡ l.counter) × (l.fn.count ≤ vec_capacity l.deques) × All (λ deque. deque.knows ≡ tally WHOLE [] []) l.deques.items
