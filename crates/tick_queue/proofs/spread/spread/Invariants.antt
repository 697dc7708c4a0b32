use Rattle.std.proofs.Common.{◌≡◌, [], length}
use Rattle.std.specs.Prelude.{IsPermutation, slice_index_or}
use Rattle.key_order.specs.Joined.{joined}
use Rattle.tick_queue.specs.Levels.{Spreads}
use Rattle.tick_queue.proofs.spread.spread.Given as goal

abbrev pub invariant-loop-event : goal.invariant-loop-event
invariant-loop-event l = record {
  spreads : Spreads l.now l.slot l.slots.slots;
  events : IsPermutation (joined l.fn.slots.slots) (joined l.slots.slots);
  spare : l.slots.spare ≡ l.fn.slots.spare;
}

abbrev pub decreases-loop-event : goal.decreases-loop-event
decreases-loop-event l = length (slice_index_or l.slots.slots l.slot [])
