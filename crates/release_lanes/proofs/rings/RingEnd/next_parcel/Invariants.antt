use Rattle.std.proofs.Common.{◌≡◌, ℕ, ◌<◌, []}
use Rattle.release_lanes.specs.Lanes.{list_at}
use Rattle.release_lanes.specs.Rings.{known_row}
use Rattle.release_lanes.proofs.rings.RingEnd.next_parcel.Given as goal

abbrev pub invariant-loop-from : goal.invariant-loop-from
invariant-loop-from l = (l.self ≡ l.initial.self) × ((k : ℕ) → k < l.from → list_at (known_row l.initial.self) k ≡ [])
