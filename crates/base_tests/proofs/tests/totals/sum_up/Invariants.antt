use Rattle.std.proofs.Common.{◌≡◌, ◌≤◌, length}
use Rattle.base_tests.proofs.tests.totals.sum_up.Given as goal

abbrev pub invariant-loop-time : goal.invariant-loop-time
invariant-loop-time g l = record {
  objects : length l.totals.objects ≡ 2;
  records : l.totals.records ≤ l.time-index;
  last : l.totals.last ≡ l.last;
}
