use Rattle.std.proofs.Common.{◌≡◌}
use Rattle.queue_models.specs.Objects.{sources_below}
use Rattle.queue_models.proofs.network.source_numbers.Given as goal

abbrev pub invariant-loop-number : goal.invariant-loop-number
invariant-loop-number l = l.numbers.items ≡ sources_below l.objects l.number
