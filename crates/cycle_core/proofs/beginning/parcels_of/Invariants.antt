use Rattle.std.proofs.Common.{take}
use Rattle.cycle_core.specs.Starts.{ArePartsOf}
use Rattle.cycle_core.proofs.beginning.parcels_of.Given as goal

abbrev pub invariant-loop-event : goal.invariant-loop-event
invariant-loop-event l = ArePartsOf l.fn.homes (take l.event-index l.events) l.parcels.items
