use Rattle.std.proofs.Common.{◌≡◌, ◌++◌, All, take}
use Rattle.std.specs.List.{flat_map}
use Rattle.std.specs.Io.{StartsWith}
use Rattle.run_save.specs.StateTexts.{event_text}
use Rattle.run_save.specs.SavedLaws.{FitsEvent}
use Rattle.run_save.proofs.writing_lines.put_events.Given as goal

abbrev pub invariant-loop-event : goal.invariant-loop-event
invariant-loop-event l = record {
  text : l.into.items ≡ l.initial.into.items ++ flat_map event_text (take l.event-index l.events);
  prefix : StartsWith l.into.items l.fn.into.items;
  fits : All FitsEvent (take l.event-index l.events);
}
