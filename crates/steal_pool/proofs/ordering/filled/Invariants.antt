use Rattle.std.proofs.Common.{◌≡◌, ◌≤◌, ◌+◌, ◌++◌, length, map, vec_len}
use Rattle.std.specs.Prelude.{Some, vec_capacity}
use Rattle.steal_pool.proofs.ordering.filled.Given as goal

abbrev pub invariant-loop-place : goal.invariant-loop-place
invariant-loop-place g l =
    (map Some l.turns.items ≡ l.yielded) × (l.yielded ++ l.place-iterator.rest.items ≡ l.fn.places.items)
    × (vec_len l.turns + length l.place-iterator.rest.items ≤ vec_capacity l.turns)
