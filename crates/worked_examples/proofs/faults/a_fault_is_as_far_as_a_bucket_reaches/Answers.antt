-- Both sides compute to the same.
use Rattle.std.proofs.Common.{refl}
use Rattle.worked_examples.specs.StrictStation.{crowd, to_thirty, strict_station}
use Rattle.worked_examples.proofs.Computing.{network_buckets}
use Rattle.worked_examples.proofs.faults.a_fault_is_as_far_as_a_bucket_reaches.Goals as goal

pub returns : goal.returns
unfolding crowd to_thirty strict_station network_buckets
returns c = refl
