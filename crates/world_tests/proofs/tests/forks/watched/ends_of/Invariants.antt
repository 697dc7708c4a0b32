use Rattle.std.proofs.Common.{◌≡◌, ◌+◌, ◌≤◌, ◌++◌, length, map, vec_len}
use Rattle.std.specs.Prelude.{vec_capacity}
use Rattle.world_tests.proofs.tests.forks.watched.ends_of.Given as goal

abbrev pub invariant-loop-watched : goal.invariant-loop-watched
invariant-loop-watched g l = record {
  ends : l.room.items ≡ map (λ w. w.end) l.yielded;
  whole : l.yielded ++ l.watched-iterator.rest.items ≡ l.fn.all.items;
  room : vec_len l.room + length l.watched-iterator.rest.items ≤ vec_capacity l.room;
}
