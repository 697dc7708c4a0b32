-- All so far come before the key.
use Rattle.std.proofs.Common.{◌≡◌, ◌+◌, true, List, ◌++◌, take, drop}
use Rattle.std.specs.List.{AllByRecursion as Each}
use Rattle.event_key.specs.declared.key.Key.{Key}
use Rattle.event_key.specs.Keys.{key_lt}
use Rattle.model_core.specs.declared.note.Note.{Note}
use Rattle.event_log.specs.Committing.{told_key}
use Rattle.event_log.proofs.committing.tell_before.Given as goal

abbrev pub invariant-loop-place : goal.invariant-loop-place
invariant-loop-place l = record {
  before : List (Key × Note);
  split : drop l.from (take l.count l.news.items) ≡ before ++ drop l.place (take l.count l.news.items);
  told_is : l.told.items ≡ l.initial.told.items ++ before;
  all_before : Each (λ (t : Key × Note). key_lt (told_key t) l.key ≡ true) before;
  room : l.told.room + l.place ≡ l.initial.told.room + l.from;
}
