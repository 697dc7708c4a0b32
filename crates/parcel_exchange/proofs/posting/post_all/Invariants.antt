use Rattle.std.proofs.Common.{◌≡◌, ℕ, ◌<◌, ◌≤◌, ◌++◌, [], length, get_or}
use Rattle.release_lanes.specs.Lanes.{SameLists}
use Rattle.parcel_exchange.specs.Mail.{parcels_of}
use Rattle.parcel_exchange.proofs.posting.post_all.Given as goal

abbrev pub invariant-loop-to : goal.invariant-loop-to
invariant-loop-to g l = record {
  same : g.E.NodeEnd.is_same l.initial.end l.end;
  posted : (to : ℕ) → to < l.to → g.E.NodeEnd.sent l.end to ≡ g.E.NodeEnd.sent l.initial.end to ++ parcels_of l.number (get_or l.initial.out to []);
  not_yet : (to : ℕ) → l.to ≤ to → g.E.NodeEnd.sent l.end to ≡ g.E.NodeEnd.sent l.initial.end to;
  received_same : SameLists (g.E.NodeEnd.received l.initial.end) (g.E.NodeEnd.received l.end);
  free : (to : ℕ) → l.to ≤ to → to < length l.initial.out → g.E.NodeEnd.is_free l.end to;
  none : (to : ℕ) → to < l.to → get_or l.out to [] ≡ [];
  left : (to : ℕ) → l.to ≤ to → get_or l.out to [] ≡ get_or l.initial.out to [];
}
