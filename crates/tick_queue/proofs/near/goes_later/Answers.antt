use Rattle.tick_queue.proofs.QueueLemmas.{later_test}
use Rattle.tick_queue.proofs.near.goes_later.Goals as goal

pub returns-clause-yes : goal.returns-clause-yes
returns-clause-yes c = later_test c.args.near.now c.args.now c.time_of-tick.result c.args.event.now c.requires.reached c.time_of-tick.ensures
