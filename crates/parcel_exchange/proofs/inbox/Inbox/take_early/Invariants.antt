use Rattle.std.proofs.Common.{◌≡◌, vec_len, vec_capacity}
use Rattle.release_lanes.specs.Lanes.{SameLists}
use Rattle.parcel_exchange.specs.Exchange.{HasTaken}
use Rattle.parcel_exchange.proofs.inbox.Inbox.take_early.Given as goal

abbrev pub invariant-loop : goal.invariant-loop
invariant-loop g l = record {
  same : g.E.NodeEnd.is_same l.initial.end l.end;
  sent_same : SameLists (g.E.NodeEnd.sent l.initial.end) (g.E.NodeEnd.sent l.end);
  taken : HasTaken (g.E.NodeEnd.nodes l.initial.end) (g.E.NodeEnd.received l.initial.end) (g.E.NodeEnd.received l.end) l.self.early.items;
  count : vec_len l.self.early ≡ l.counter;
  room : vec_capacity l.self.early ≡ vec_capacity l.initial.self.early;
  arrived : l.self.arrived ≡ l.initial.self.arrived;
}
