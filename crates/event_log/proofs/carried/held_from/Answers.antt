-- What stands at the place knows it.
use Rattle.std.proofs.Common.{◌∙◌, arith}
use Rattle.event_log.proofs.ItemLemmas.{held-at}
use Rattle.event_log.proofs.carried.held_from.Goals as goal

pub returns : goal.returns
returns c = c.at.ensures.2.held_is ∙ held-at c.args.place c.args.items.now.items c.at.ensures.0 (omega arith) c.at.ensures.1
