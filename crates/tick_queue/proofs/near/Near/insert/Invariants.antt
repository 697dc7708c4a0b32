use Rattle.tick_queue.specs.Order.{shown}
use Rattle.tick_queue.proofs.NearLemmas.{IsPlace}
use Rattle.tick_queue.proofs.near.Near.insert.Given as goal

abbrev pub invariant-loop-i : goal.invariant-loop-i
invariant-loop-i l = IsPlace l.event (shown l.self-inside.events.items l.self-inside.places.items) l.self-inside.at l.i

abbrev pub decreases-loop-i : goal.decreases-loop-i
decreases-loop-i l = l.i
