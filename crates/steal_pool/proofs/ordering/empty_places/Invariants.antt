use Rattle.std.proofs.Common.{◌≡◌, ◌≤◌, vec_len}
use Rattle.std.specs.Prelude.{All, IsNone, vec_capacity}
use Rattle.steal_pool.proofs.ordering.empty_places.Given as goal

abbrev pub invariant-loop : goal.invariant-loop
invariant-loop g l = (vec_len l.places ≡ l.counter) × (l.fn.count ≤ vec_capacity l.places) × All (λ place. IsNone place) l.places.items
