-- Both sides compute to the same.
use Rattle.std.proofs.Common.{refl}
use Rattle.worked_examples.specs.StrictStation.{pairs, strict_station}
use Rattle.worked_examples.specs.Worlds.{put, put_all, told_by, three_jobs}
use Rattle.worked_examples.proofs.Computing.{network_buckets}
use Rattle.worked_examples.proofs.running_ahead.running_ahead_tells_the_same.Goals as goal

pub returns-clause-behind : goal.returns-clause-behind
unfolding pairs put put_all told_by three_jobs strict_station network_buckets
returns-clause-behind c = refl

pub returns-clause-ahead : goal.returns-clause-ahead
unfolding pairs put put_all told_by three_jobs strict_station network_buckets
returns-clause-ahead c = refl
