-- Both sides compute to the same.
use Rattle.std.proofs.Common.{refl}
use Rattle.sim_spec.specs.Replay.{early_replay}
use Rattle.worked_examples.specs.StrictStation.{pairs, early_of_pairs, strict_station, to_thirty, first_of_pairs, buckets_of_pairs}
use Rattle.worked_examples.proofs.Computing.{network_buckets}
use Rattle.worked_examples.proofs.running_ahead.a_fault_that_is_met_early_is_no_fault.Goals as goal

pub returns-clause-early : goal.returns-clause-early
unfolding pairs early_of_pairs strict_station early_replay network_buckets
returns-clause-early c = refl

pub returns-clause-first : goal.returns-clause-first
unfolding pairs to_thirty first_of_pairs strict_station network_buckets
returns-clause-first c = refl

pub returns-clause-whole : goal.returns-clause-whole
unfolding pairs to_thirty first_of_pairs buckets_of_pairs strict_station network_buckets
returns-clause-whole c = refl
