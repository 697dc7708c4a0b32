-- Both sides compute to the same.
use Rattle.std.proofs.Common.{refl}
use Rattle.worked_examples.specs.Shop.{shop, to_twenty, first_five_buckets, first_six_buckets, all_buckets}
use Rattle.worked_examples.proofs.Computing.{network_buckets}
use Rattle.worked_examples.proofs.limits.three_jobs_take_seven_buckets.Goals as goal

pub returns : goal.returns
unfolding shop to_twenty first_five_buckets first_six_buckets all_buckets network_buckets
returns c = refl
