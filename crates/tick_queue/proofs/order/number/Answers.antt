use Rattle.std.proofs.Common.{◌∙◌, arith}
use Rattle.tick_queue.proofs.OrderLemmas.{numbers_more}
use Rattle.tick_queue.proofs.order.number.Goals as goal

pub loop-i-preserved : goal.loop-i-preserved
loop-i-preserved c = record {
  have = c.push_reserved.ensures.items ∙ numbers_more c.loop-i.places.items c.loop-i.i c.loop-i.invariant.have;
  room = omega (arith, c.push_reserved.ensures.len, c.push_reserved.ensures.capacity, c.loop-i.invariant.room);
}
