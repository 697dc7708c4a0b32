use Rattle.std.proofs.Common.{◌≡◌, ◌≤◌, ◌+◌, ◌++◌, length, map, vec_len}
use Rattle.std.specs.Prelude.{vec_capacity}
use Rattle.steal_pool.specs.Works.{item_in}
use Rattle.steal_pool.proofs.each.items_of.Given as goal

abbrev pub invariant-loop-job : goal.invariant-loop-job
invariant-loop-job g l =
    (l.items.items ≡ map item_in l.yielded) × (l.yielded ++ l.job-iterator.rest.items ≡ l.fn.jobs.items)
    × (vec_len l.items + length l.job-iterator.rest.items ≤ vec_capacity l.items)
