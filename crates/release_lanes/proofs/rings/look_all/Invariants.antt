use Rattle.std.proofs.Common.{◌≡◌, ◌≢◌, ℕ, map, slice_index}
use Rattle.rtrb.specs.Ring.{sent, known_free}
use Rattle.release_lanes.specs.Lanes.{list_at}
use Rattle.release_lanes.specs.Rings.{AreFreed, MeetFrom, ring_out, outline, outs_of, received_row, received_on, rest_on}
use Rattle.release_lanes.proofs.rings.look_all.Given as goal

abbrev pub invariant-loop-to : goal.invariant-loop-to
invariant-loop-to l = record {
  outlines : map outline l.ends ≡ map outline l.initial.ends;
  outs_same : map outs_of l.ends ≡ map outs_of l.initial.ends;
  received_same : map received_row l.ends ≡ map received_row l.initial.ends;
  rings : map ring_out l.senders ≡ map ring_out l.initial.senders;
  senders_sent : map sent l.senders ≡ map sent l.initial.senders;
  known : (i to : ℕ) → i ≢ l.from → rest_on l.ends i to ≡ rest_on l.initial.ends i to;
  met : MeetFrom l.to l.from (list_at (map sent l.initial.senders)) l.ends;
  free : AreFreed l.to (received_on l.initial.ends l.from) (list_at (map sent l.initial.senders)) (slice_index (map known_free l.senders));
}
