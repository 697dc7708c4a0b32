use Rattle.std.proofs.Common.{◌≡◌, length}
use Rattle.world_tests.proofs.tests.forks.watched.shared.Given as goal

abbrev pub invariant-loop : goal.invariant-loop
invariant-loop l = length l.all.items ≡ l.counter
