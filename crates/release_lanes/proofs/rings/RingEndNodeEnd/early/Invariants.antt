use Rattle.std.proofs.Common.{◌≡◌, ℕ, ◌<◌, ◌≤◌, []}
use Rattle.release_lanes.specs.Lanes.{list_at}
use Rattle.release_lanes.specs.Rings.{outline, received_row, known_row}
use Rattle.release_lanes.proofs.rings.RingEndNodeEnd.early.Given as goal

abbrev pub invariant-loop-from : goal.invariant-loop-from
invariant-loop-from l = record {
  same : outline l.self ≡ outline l.initial.self;
  received_same : received_row l.self ≡ received_row l.initial.self;
  outs_same : l.self.outs ≡ l.initial.self.outs;
  none_known : (k : ℕ) → k < l.from → list_at (known_row l.initial.self) k ≡ [];
  later_same : (k : ℕ) → l.from ≤ k → list_at (known_row l.self) k ≡ list_at (known_row l.initial.self) k;
}
