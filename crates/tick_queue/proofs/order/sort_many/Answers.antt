-- The words are sorted, and of each its place is kept.
use Rattle.tick_queue.proofs.OrderLemmas.{words_inside, words_show}
use Rattle.tick_queue.proofs.order.sort_many.Goals as goal

pub is_in_order-requires : goal.is_in_order-requires
is_in_order-requires c =
    words_inside c.args.events.now.items c.put_words.new.words.items c.sort_unstable.new.self.items c.keep_places.new.words.items c.in_ok-put_words.ensures c.sort_unstable.ensures.permutation c.keep_places.ensures

pub returns-then-is_in_order : goal.returns-then-is_in_order
returns-then-is_in_order c =
    words_show c.args.events.now.items c.put_words.new.words.items c.sort_unstable.new.self.items c.keep_places.new.words.items c.requires c.in_ok-put_words.ensures c.sort_unstable.ensures.permutation
    c.keep_places.ensures c.if-is_in_order.ensures
