use Rattle.tick_queue.specs.Order.{shown}
use Rattle.tick_queue.proofs.QueueLemmas.{due_differ, refills}
use Rattle.tick_queue.proofs.near.Near.refill.Goals as goal

pub sort-requires : goal.sort-requires
sort-requires c = due_differ c.args.levels.now c.advance.new.self c.advance.new.due.items c.requires c.in_ok-advance.ensures.advances

pub returns-in-Ok-clause-ok : goal.returns-in-Ok-clause-ok
returns-in-Ok-clause-ok c =
    refills c.args.levels.now c.advance.new.self c.advance.new.due.items (shown c.sort.new.events.items c.sort.new.places.items) c.requires c.in_ok-advance.ensures.advances c.in-Ok.ensures.is
