-- The messages so far, and those that are left.
use Rattle.std.proofs.Common.{◌≡◌, ◌+◌, ◌≤◌, ◌++◌, false, drop, length, map, List}
use Rattle.event_key.specs.declared.stamp.TheConstants.{NO_STAMP}
use Rattle.key_order.specs.Stamps.{least_stamp}
use Rattle.model_core.specs.declared.event.Event.{Event}
use Rattle.model_core.specs.Meaning.{SendsInRange}
use Rattle.sim_spec.specs.Firing.{has_endless_chain, emissions}
use Rattle.event_log.specs.News.{homed}
use Rattle.event_log.proofs.sending.hold_all.Given as goal

abbrev pub invariant-loop-send : goal.invariant-loop-send
invariant-loop-send l = record {
  held : List Event;
  sent : l.outbox.sent ≡ l.initial.outbox.sent ++ map (homed l.homes) held;
  whole : held ++ emissions l.cause.stamp l.cause.dest l.next_serial (drop l.send-index l.sends) ≡ emissions l.cause.stamp l.cause.dest l.fn.serial l.sends;
  long : length held ≡ l.send-index;
  least_is : l.least ≡ least_stamp NO_STAMP held;
  stepping : has_endless_chain l.cause.stamp (drop l.send-index l.sends) ≡ false;
  ranged : SendsInRange (length l.homes) (drop l.send-index l.sends);
  count : l.next_serial ≡ l.fn.serial + l.send-index;
  cells : l.pool + l.send-index ≡ l.initial.pool;
  room : l.initial.outbox.room ≤ l.outbox.room + l.send-index;
  nodes : l.outbox.nodes ≡ l.initial.outbox.nodes;
}
