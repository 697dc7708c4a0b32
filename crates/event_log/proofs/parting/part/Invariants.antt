-- Some have left, or have come behind the others.
use Rattle.std.proofs.Common.{◌≡◌, ◌+◌, ◌≤◌, length}
use Rattle.event_log.proofs.PartFacts.{IsParted}
use Rattle.event_log.proofs.parting.part.Given as goal

abbrev pub invariant-loop : goal.invariant-loop
invariant-loop l = record {
  parted : IsParted l.object l.counter l.fn.items.items l.items.items l.own.items;
  long : length l.items.items + length l.own.items ≡ length l.fn.items.items;
  few : length l.own.items ≤ l.counter;
  capacity : l.items.capacity ≡ l.fn.items.capacity;
  own_capacity : l.own.capacity ≡ l.fn.own.capacity;
}
