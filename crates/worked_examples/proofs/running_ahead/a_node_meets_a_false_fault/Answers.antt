-- Both sides compute to the same.
use Rattle.std.proofs.Common.{refl}
use Rattle.worked_examples.specs.StrictStation.{pairs, strict_station}
use Rattle.worked_examples.proofs.Computing.{network_buckets}
use Rattle.worked_examples.proofs.running_ahead.a_node_meets_a_false_fault.Goals as goal

pub returns-clause-fault : goal.returns-clause-fault
unfolding pairs strict_station network_buckets
returns-clause-fault c = refl

pub returns-clause-bound : goal.returns-clause-bound
unfolding pairs strict_station network_buckets
returns-clause-bound c = refl
