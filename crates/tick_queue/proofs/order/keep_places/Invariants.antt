use Rattle.std.proofs.Common.{◌≡◌, ◌++◌, map, take, drop}
use Rattle.tick_queue.specs.Order.{place_at}
use Rattle.tick_queue.proofs.order.keep_places.Given as goal

abbrev pub invariant-loop-word : goal.invariant-loop-word
invariant-loop-word l = l.word-items ≡ map place_at (take l.word-index l.fn.words.items) ++ drop l.word-index l.fn.words.items
