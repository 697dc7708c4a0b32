-- The messages so far.
use Rattle.std.proofs.Common.{◌≡◌}
use Rattle.event_key.specs.declared.stamp.TheConstants.{NO_STAMP}
use Rattle.key_order.specs.Stamps.{least_stamp}
use Rattle.event_log.specs.Popping.{TakesLast}
use Rattle.event_log.proofs.popped.take_sends.Given as goal

abbrev pub invariant-loop : goal.invariant-loop
invariant-loop l = record {
  taken : TakesLast l.initial.outbox.sent l.outbox.sent l.counter l.taken;
  least_is : l.least ≡ least_stamp NO_STAMP l.taken;
  nodes : l.outbox.nodes ≡ l.initial.outbox.nodes;
}
