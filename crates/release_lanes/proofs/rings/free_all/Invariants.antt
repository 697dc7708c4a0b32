use Rattle.std.proofs.Common.{◌≡◌, ℕ, ◌<◌, map, length}
use Rattle.release_lanes.specs.Rings.{outline, sent_row, received_row, free_on}
use Rattle.release_lanes.proofs.rings.free_all.Given as goal

abbrev pub invariant-loop-from : goal.invariant-loop-from
invariant-loop-from l = record {
  outlines : map outline l.ends ≡ map outline l.initial.ends;
  sent_same : map sent_row l.ends ≡ map sent_row l.initial.ends;
  received_same : map received_row l.ends ≡ map received_row l.initial.ends;
  free : (i to : ℕ) → i < l.from → to < length l.initial.ends → 0 < free_on l.ends i to;
}
