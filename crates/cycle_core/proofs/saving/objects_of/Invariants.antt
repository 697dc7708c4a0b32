use Rattle.cycle_core.specs.Snapshots.{AreStatesOf}
use Rattle.cycle_core.proofs.saving.objects_of.Given as goal

abbrev pub invariant-loop-object : goal.invariant-loop-object
invariant-loop-object g l = AreStatesOf l.fn.homes l.nodes l.object l.objects.items
