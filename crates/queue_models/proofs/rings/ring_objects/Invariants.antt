use Rattle.std.proofs.Common.{◌≡◌, map}
use Rattle.std.specs.List.{range_with_len}
use Rattle.queue_models.specs.Rings.{ring_object}
use Rattle.queue_models.proofs.rings.ring_objects.Given as goal

abbrev pub invariant-loop-number : goal.invariant-loop-number
invariant-loop-number l = l.objects.items ≡ map (ring_object l.n) (range_with_len 0 l.number)
