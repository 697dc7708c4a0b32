-- Some stand in front again.
use Rattle.std.proofs.Common.{◌≡◌, length}
use Rattle.event_log.proofs.PartFacts.{IsSettled}
use Rattle.event_log.proofs.parting.settle.Given as goal

abbrev pub invariant-loop-settled : goal.invariant-loop-settled
invariant-loop-settled l = record {
  settled : IsSettled l.from l.to l.settled l.fn.items.items l.items.items;
  long : length l.items.items ≡ length l.fn.items.items;
  capacity : l.items.capacity ≡ l.fn.items.capacity;
}
