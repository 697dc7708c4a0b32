-- One after another goes over.
use Rattle.std.proofs.Common.{◌≡◌, ◌-◌, length}
use Rattle.event_log.specs.Items.{placed}
use Rattle.event_log.specs.Turning.{AreAfter, IsTurned, turned_back}
use Rattle.event_log.proofs.turning.turn_past.Given as goal

abbrev pub invariant-loop-turned : goal.invariant-loop-turned
invariant-loop-turned l = record {
  turned : IsTurned l.turned l.items.items;
  same : placed (turned_back l.turned l.items.items) ≡ placed (turned_back l.front l.fn.items.items);
  after : AreAfter l.key l.turned l.items.items;
  capacity : l.items.capacity ≡ l.fn.items.capacity;
  long : length l.items.items ≡ length l.fn.items.items;
  len : l.len ≡ length l.items.items;
}

abbrev pub decreases-loop-turned : goal.decreases-loop-turned
decreases-loop-turned l = l.len - l.turned
