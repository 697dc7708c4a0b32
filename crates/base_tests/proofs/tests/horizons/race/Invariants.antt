use Rattle.std.proofs.Common.{◌≤◌}
use Rattle.horizon_word.specs.Views.{IsSeatOf}
use Rattle.base_tests.proofs.tests.horizons.race.Given as goal

abbrev pub invariant-loop-left : goal.invariant-loop-left
invariant-loop-left l = IsSeatOf l.word l.seat × (l.seat.floor ≤ 10)
