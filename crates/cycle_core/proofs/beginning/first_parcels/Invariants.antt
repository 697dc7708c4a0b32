use Rattle.cycle_core.specs.Starts.{ArePartsOf, first_events}
use Rattle.cycle_core.proofs.beginning.first_parcels.Given as goal

abbrev pub invariant-loop-i : goal.invariant-loop-i
invariant-loop-i g l = ArePartsOf l.fn.homes (first_events (g.M.Model.meaning l.fn.model) l.i) l.parcels.items
