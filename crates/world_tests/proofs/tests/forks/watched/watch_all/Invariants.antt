use Rattle.std.proofs.Common.{◌≡◌, ◌+◌, ◌≤◌, ◌++◌, length, map, vec_len}
use Rattle.std.specs.Prelude.{vec_capacity}
use Rattle.world_tests.proofs.tests.forks.watched.watch_all.Given as goal

abbrev pub invariant-loop-end : goal.invariant-loop-end
invariant-loop-end g l = record {
  ends : map (λ w. w.end) l.into.items ≡ l.yielded;
  whole : l.yielded ++ l.end-iterator.rest.items ≡ l.fn.ends.items;
  many : length l.end-iterator.rest.items ≤ length l.watches.items;
  room : vec_len l.into + length l.end-iterator.rest.items ≤ vec_capacity l.into;
}
