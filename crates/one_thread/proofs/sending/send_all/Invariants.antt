use Rattle.std.proofs.Common.{◌≡◌, ℕ, ◌+◌, false, drop, length}
use Rattle.model_core.specs.Meaning.{SendsInRange}
use Rattle.sim_spec.specs.Firing.{has_endless_chain, emissions}
use Rattle.key_order.specs.Pending.{enqueue_all}
use Rattle.key_order.specs.Serials.{SerialsBelow}
use Rattle.key_order.specs.Stamps.{least_stamp}
use Rattle.one_thread.proofs.sending.send_all.Given as goal

abbrev pub invariant-loop-send : goal.invariant-loop-send
invariant-loop-send l = record {
  ranged : (objects : ℕ) × SendsInRange objects (drop l.send-index l.sends);
  stepping : has_endless_chain l.cause.stamp (drop l.send-index l.sends) ≡ false;
  count : l.next_serial ≡ l.fn.serial + l.send-index;
  pending_is : enqueue_all (emissions l.cause.stamp l.cause.dest l.next_serial (drop l.send-index l.sends)) l.queue.pending ≡ enqueue_all (emissions l.cause.stamp l.cause.dest l.fn.serial l.sends) l.fn.queue.pending;
  least_is : least_stamp l.queue.fresh_least (emissions l.cause.stamp l.cause.dest l.next_serial (drop l.send-index l.sends)) ≡ least_stamp l.fn.queue.fresh_least (emissions l.cause.stamp l.cause.dest l.fn.serial l.sends);
  serials : SerialsBelow l.cause.dest l.next_serial l.queue.pending;
  len : length l.queue.pending ≡ length l.fn.queue.pending + l.send-index;
}
