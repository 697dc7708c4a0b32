use Rattle.std.proofs.Common.{◌≡◌, ◌≤◌, length}
use Rattle.event_log.specs.Items.{AreHeldBut, placed}
use Rattle.event_log.proofs.carried.mend.Given as goal

abbrev pub invariant-loop-place : goal.invariant-loop-place
invariant-loop-place l = record {
  inside : l.place ≤ length l.items.items;
  but : AreHeldBut l.place l.items.items;
  same : placed l.items.items ≡ placed l.fn.items.items;
  capacity : l.items.capacity ≡ l.fn.items.capacity;
}

abbrev pub decreases-loop-place : goal.decreases-loop-place
decreases-loop-place l = l.place
