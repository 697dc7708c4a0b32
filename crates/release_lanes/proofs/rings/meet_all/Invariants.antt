use Rattle.std.proofs.Common.{◌≡◌, ℕ, ◌<◌, ◌++◌, map, length}
use Rattle.release_lanes.specs.Rings.{outline, sent_row, received_row, sent_on, received_on, rest_on}
use Rattle.release_lanes.proofs.rings.meet_all.Given as goal

abbrev pub invariant-loop-from : goal.invariant-loop-from
invariant-loop-from l = record {
  outlines : map outline l.ends ≡ map outline l.initial.ends;
  sent_same : map sent_row l.ends ≡ map sent_row l.initial.ends;
  received_same : map received_row l.ends ≡ map received_row l.initial.ends;
  met : (i to : ℕ) → i < l.from → to < length l.initial.ends → received_on l.ends i to ++ rest_on l.ends i to ≡ sent_on l.ends i to;
}
