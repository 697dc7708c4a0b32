-- No event lies in a slot.
use Rattle.std.proofs.Common.{length, ap, arith}
use Rattle.event_log.proofs.SlotLemmas.{no-slots}
use Rattle.event_log.proofs.items.Items.with_capacity.Goals as goal

pub invariant_of-result : goal.invariant_of-result
invariant_of-result c = (no-slots _ _ _ c.in_ok-with_capacity-2.ensures.items c.in_ok-with_capacity-3.ensures.items c.in_ok-with_capacity.ensures.items, omega (arith, ap length c.in_ok-with_capacity-2.ensures.items))
