use Rattle.std.proofs.Common.{◌≡◌, map, length}
use Rattle.std.specs.List.{range_with_len}
use Rattle.sim_spec.specs.State.{start_event}
use Rattle.key_order.specs.Pending.{in_order}
use Rattle.key_order.specs.Serials.{SerialsBelow}
use Rattle.one_thread.proofs.beginning.first_events.Given as goal

abbrev pub invariant-loop-i : goal.invariant-loop-i
invariant-loop-i g l = record {
  pending_is : l.queue.pending ≡ in_order (map (start_event (g.M.Model.meaning l.model)) (range_with_len 0 l.i));
  serials : SerialsBelow 4294967295 l.i l.queue.pending;
  len : length l.queue.pending ≡ l.i;
}
