use Rattle.std.proofs.Common.{◌≡◌, length, take}
use Rattle.event_key.specs.declared.stamp.TheConstants.{NO_STAMP}
use Rattle.key_order.specs.Stamps.{least_stamp}
use Rattle.object_log.specs.Logs.{held_of}
use Rattle.object_log.specs.Rows.{TellHeld}
use Rattle.object_log.proofs.PileLemmas.{dones}
use Rattle.object_log.proofs.pile.tell_held.Given as goal

abbrev pub invariant-loop-place : goal.invariant-loop-place
invariant-loop-place l = record {
  told : TellHeld NO_STAMP (take l.place l.entries.items);
  held : l.held ≡ least_stamp NO_STAMP (held_of (dones (take l.place l.entries.items)));
  long : length l.entries.items ≡ length l.initial.entries.items;
  same : dones l.entries.items ≡ dones l.initial.entries.items;
}
