-- The parts so far.
use Rattle.std.proofs.Common.{◌≡◌, take}
use Rattle.event_log.proofs.popped.note_of.Given as goal

abbrev pub invariant-loop-part : goal.invariant-loop-part
invariant-loop-part l = l.note ≡ take l.part-index l.parts
