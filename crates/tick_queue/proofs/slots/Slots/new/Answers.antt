use Rattle.std.proofs.Common.{refl}
use Rattle.tick_queue.proofs.SlotLemmas.{slots-none, all_empty}
use Rattle.tick_queue.proofs.slots.Slots.new.Goals as goal

pub invariant_of-result : goal.invariant_of-result
invariant_of-result c = slots-none c.in_ok-new.field-0.bags 512 refl c.in_ok-new.ensures

pub returns : goal.returns
returns c = all_empty c.in_ok-new.field-0.bags 512 c.in_ok-new.ensures
