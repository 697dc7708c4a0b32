use Rattle.std.proofs.Common.{◌≡◌, ◌≤◌, length}
use Rattle.base_tests.proofs.tests.totals.crowded.Given as goal

abbrev pub invariant-loop : goal.invariant-loop
invariant-loop l = record {
  objects : length l.totals.objects ≡ 2;
  records : l.totals.records ≤ l.counter;
  last : l.totals.last ≡ 0;
}
