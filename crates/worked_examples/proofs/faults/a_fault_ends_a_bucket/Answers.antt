-- Both sides compute to the same.
use Rattle.std.proofs.Common.{refl}
use Rattle.worked_examples.specs.StrictStation.{crowd, to_thirty, two_are_done, faulted_bucket, strict_station}
use Rattle.worked_examples.proofs.Computing.{network_buckets}
use Rattle.worked_examples.proofs.faults.a_fault_ends_a_bucket.Goals as goal

pub returns : goal.returns
unfolding crowd to_thirty two_are_done faulted_bucket strict_station network_buckets
returns c = refl
