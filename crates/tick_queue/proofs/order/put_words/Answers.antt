use Rattle.std.proofs.Common.{ap, ◌∙◌, map, arith}
use Rattle.tick_queue.specs.Order.{place_at}
use Rattle.tick_queue.proofs.OrderLemmas.{words_more}
use Rattle.tick_queue.proofs.order.put_words.Goals as goal

pub loop-i-preserved : goal.loop-i-preserved
loop-i-preserved c = record {
  have = ap (map place_at) c.push_reserved.ensures.items ∙ words_more c.loop-i.words.items c.word_of.result c.loop-i.i c.loop-i.invariant.have c.word_of.ensures;
  room = omega (arith, c.push_reserved.ensures.len, c.push_reserved.ensures.capacity, c.loop-i.invariant.room);
}
