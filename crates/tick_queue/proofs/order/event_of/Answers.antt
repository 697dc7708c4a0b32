use Rattle.std.proofs.Common.{arith}
use Rattle.tick_queue.proofs.OrderLemmas.{inside_at, shown_at}
use Rattle.tick_queue.proofs.order.event_of.Goals as goal

pub index-requires-2 : goal.index-requires-2
index-requires-2 c =
    let lt = inside_at c.args.events.now.items c.args.places.now.items c.args.i c.index.result.now c.requires.inside c.requires.exists c.index.ensures in
    omega (arith, lt)

pub returns : goal.returns
returns c =
    shown_at c.args.events.now.items c.args.places.now.items c.args.i c.index.result.now c.index-2.result.now c.requires.inside c.requires.exists c.index.ensures c.index-2.ensures
