-- The others that are left come before all in front.
use Rattle.std.proofs.Common.{◌≡◌, ◌+◌, ◌≤◌, List, [], ◌∷◌, ◌++◌, length}
use Rattle.object_log.specs.Carrying.{placed_key}
use Rattle.object_log.specs.Weave.{weave}
use Rattle.event_log.specs.Items.{Item, item_key, placed}
use Rattle.event_log.specs.Turning.{AreAfter, IsTurned, turned_back}
use Rattle.event_log.proofs.parting.join_all.Given as goal

abbrev pub invariant-loop-done : goal.invariant-loop-done
invariant-loop-done l = record {
  turned : IsTurned l.turned l.items.items;
  same : weave placed_key (placed l.others.items) (placed (turned_back l.turned l.items.items)) ≡ weave placed_key (placed l.fn.others.items) (placed (turned_back 0 l.fn.items.items));
  after : (es : List Item) (e : Item) → l.others.items ≡ es ++ e ∷ [] → AreAfter (item_key e) l.turned l.items.items;
  gone : (own : List Item) × (l.fn.others.items ≡ l.others.items ++ own);
  room : length l.items.items + length l.others.items ≤ l.items.capacity;
  capacity : l.items.capacity ≡ l.fn.items.capacity;
}

abbrev pub decreases-loop-done : goal.decreases-loop-done
decreases-loop-done l = length l.others.items
