-- Both sides compute to the same.
use Rattle.std.proofs.Common.{refl}
use Rattle.worked_examples.specs.StrictStation.{crowd, to_two_events, two_are_done, limited_bucket, strict_station}
use Rattle.worked_examples.proofs.Computing.{network_buckets}
use Rattle.worked_examples.proofs.faults.the_limit_comes_before_a_fault.Goals as goal

pub returns : goal.returns
unfolding crowd to_two_events two_are_done limited_bucket strict_station network_buckets
returns c = refl
