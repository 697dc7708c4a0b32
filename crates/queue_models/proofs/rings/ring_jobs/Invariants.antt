use Rattle.std.proofs.Common.{◌≡◌}
use Rattle.queue_models.specs.Rings.{ring_jobs}
use Rattle.queue_models.proofs.rings.ring_jobs.Given as goal

abbrev pub invariant-loop-number : goal.invariant-loop-number
invariant-loop-number l = l.jobs.items ≡ ring_jobs l.number
