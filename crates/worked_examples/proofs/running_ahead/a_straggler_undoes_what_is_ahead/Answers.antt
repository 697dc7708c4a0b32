-- Both sides compute to the same.
use Rattle.std.proofs.Common.{refl}
use Rattle.world_spec.specs.Early.{is_before_all, leading}
use Rattle.world_spec.specs.Moves.{received_ahead}
use Rattle.worked_examples.specs.StrictStation.{pairs, strict_station}
use Rattle.worked_examples.proofs.Computing.{network_buckets}
use Rattle.worked_examples.proofs.running_ahead.a_straggler_undoes_what_is_ahead.Goals as goal

pub returns-clause-left : goal.returns-clause-left
unfolding pairs strict_station is_before_all leading received_ahead network_buckets
returns-clause-left c = refl

pub returns-clause-undone : goal.returns-clause-undone
unfolding pairs strict_station is_before_all leading received_ahead network_buckets
returns-clause-undone c = refl
