use Rattle.std.proofs.Common.{◌+◌, ◌-◌, length}
use Rattle.event_bags.proofs.Walks.{Walk}
use Rattle.event_bags.proofs.bags.Bags.take_all.Given as goal

abbrev pub invariant-loop-into : goal.invariant-loop-into
invariant-loop-into g l =
    Walk l.self-inside.items.items l.self-inside.links.items l.self-inside.heads.items l.self-inside.free l.self-inside.unused l.bag l.fn.into.items l.into.items l.front l.last

abbrev pub decreases-loop-into : goal.decreases-loop-into
decreases-loop-into g l = length l.self-inside.links.items + length l.fn.into.items - length l.into.items
