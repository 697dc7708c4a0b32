-- So many carried events are gone.
use Rattle.std.proofs.Common.{◌+◌, ◌≤◌, take}
use Rattle.event_log.proofs.TellFacts.{IsAmong}
use Rattle.event_log.proofs.committing.commit_first.Given as goal

abbrev pub invariant-loop : goal.invariant-loop
invariant-loop l = record {
  among : IsAmong l.homes (take l.count l.news.items) l.initial.carried.items l.initial.told.items l.initial.out.items l.counter l.from l.carried.items l.told.items l.out.items;
  within : l.from ≤ l.count;
  room : l.count + l.due ≤ l.told.room + l.from + l.counter;
}
