use Rattle.std.proofs.Common.{◌%◌, rules}
use Rattle.std.proofs.lemmas.List.Edits.{map_over_more}
use Rattle.tick_queue.proofs.order.keep_places.Goals as goal

pub loop-word-preserved : goal.loop-word-preserved
loop-word-preserved c = search (rules, map_over_more (λ x. x % 16384))
