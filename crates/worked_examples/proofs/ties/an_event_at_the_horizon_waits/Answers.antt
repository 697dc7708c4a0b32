-- Both sides compute to the same.
use Rattle.std.proofs.Common.{refl}
use Rattle.worked_examples.specs.Ring.{ring, to_nine, ring_buckets}
use Rattle.worked_examples.proofs.Computing.{phold_buckets}
use Rattle.worked_examples.proofs.ties.an_event_at_the_horizon_waits.Goals as goal

pub returns : goal.returns
unfolding ring to_nine ring_buckets phold_buckets
returns c = refl
