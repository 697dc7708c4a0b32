use Rattle.std.proofs.Common.{◌≡◌, ◌≤◌, ◌+◌, ◌++◌, length, map, vec_len}
use Rattle.std.specs.Prelude.{vec_capacity}
use Rattle.steal_pool.specs.Works.{AreWith, item_in}
use Rattle.steal_pool.proofs.each.jobs_of.Given as goal

abbrev pub invariant-loop-item : goal.invariant-loop-item
invariant-loop-item g l =
    (map item_in l.jobs.items ≡ l.yielded) × AreWith l.work l.jobs.items × (l.yielded ++ l.item-iterator.rest.items ≡ l.fn.items.items)
    × (vec_len l.jobs + length l.item-iterator.rest.items ≤ vec_capacity l.jobs)
