use Rattle.std.proofs.Common.{◌≡◌, map}
use Rattle.std.specs.List.{range_with_len}
use Rattle.sim_spec.specs.State.{first_object}
use Rattle.event_firing.proofs.beginning.first_objects.Given as goal

abbrev pub invariant-loop-object : goal.invariant-loop-object
invariant-loop-object g l = l.objects.items ≡ map (first_object (g.M.Model.meaning l.model)) (range_with_len 0 l.object)
