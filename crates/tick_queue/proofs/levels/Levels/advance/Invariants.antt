use Rattle.std.proofs.Common.{◌≡◌, ◌-◌, ◌^◌, []}
use Rattle.std.specs.Prelude.{IsPermutation}
use Rattle.key_order.specs.Joined.{joined}
use Rattle.tick_queue.specs.Levels.{AreLevels}
use Rattle.tick_queue.proofs.levels.Levels.advance.Given as goal

abbrev pub invariant-loop-slot : goal.invariant-loop-slot
invariant-loop-slot l = record {
  levels : AreLevels l.self-inside.tick l.self-inside.slots.slots;
  events : IsPermutation l.fn.self.events (joined l.self-inside.slots.slots);
  none : l.due.items ≡ [];
}

abbrev pub decreases-loop-slot : goal.decreases-loop-slot
decreases-loop-slot l = 2 ^ 48 - l.self-inside.tick
