use Rattle.std.proofs.Common.{◌≡◌, ℕ, ◌<◌, ◌≤◌, [], map}
use Rattle.release_lanes.specs.Plain.{outline, posted, standing}
use Rattle.release_lanes.proofs.plain.next_parcel.Given as goal

abbrev pub invariant-loop-from : goal.invariant-loop-from
invariant-loop-from l = record {
  outlines : map outline l.ends ≡ map outline l.initial.ends;
  posted_same : map posted l.ends ≡ map posted l.initial.ends;
  none_before : (k : ℕ) → l.first ≤ k → k < l.from → standing l.initial.ends k l.to ≡ [];
}
