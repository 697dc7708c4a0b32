use Rattle.std.proofs.Common.{◌≡◌}
use Rattle.horizon_word.specs.Views.{IsSeatOf}
use Rattle.base_tests.proofs.tests.horizons.reads_down_to.Given as goal

abbrev pub invariant-loop : goal.invariant-loop
invariant-loop l = IsSeatOf l.word l.seat × (l.seat.floor ≡ l.fn.seat.floor)
