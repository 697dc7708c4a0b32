use Rattle.tick_queue.proofs.NearLemmas.{placed_none, shown_none}
use Rattle.tick_queue.proofs.near.Near.new.Goals as goal

pub invariant_of-result : goal.invariant_of-result
invariant_of-result c = placed_none c.new.result.items c.new-2.result.items c.new-2.ensures.items

pub returns : goal.returns
returns c = shown_none c.new.result.items c.new-2.result.items c.new-2.ensures.items
