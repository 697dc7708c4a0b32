-- The records so far, and those that are left.
use Rattle.std.proofs.Common.{◌≡◌, ◌+◌, ◌++◌, take, drop}
use Rattle.event_log.proofs.committing.tell_rest.Given as goal

abbrev pub invariant-loop-place : goal.invariant-loop-place
invariant-loop-place l = record {
  told_is : l.told.items ++ drop l.place (take l.count l.news.items) ≡ l.initial.told.items ++ drop l.from (take l.count l.news.items);
  room : l.told.room + l.place ≡ l.initial.told.room + l.from;
}
