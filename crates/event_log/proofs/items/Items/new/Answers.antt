-- No event lies in a slot.
use Rattle.std.proofs.Common.{length, ap, arith}
use Rattle.event_log.proofs.SlotLemmas.{no-slots}
use Rattle.event_log.proofs.items.Items.new.Goals as goal

pub invariant_of-result : goal.invariant_of-result
invariant_of-result c = (no-slots _ _ _ c.new-2.ensures.items c.new-3.ensures.items c.new.ensures.items, omega (arith, ap length c.new-2.ensures.items))
