-- Both sides compute to the same.
use Rattle.std.proofs.Common.{refl}
use Rattle.worked_examples.specs.Shop.{shop, to_twelve_events, first_five_buckets, first_six_buckets, all_buckets}
use Rattle.worked_examples.proofs.Computing.{network_buckets}
use Rattle.worked_examples.proofs.limits.the_end_comes_before_the_limit.Goals as goal

pub returns : goal.returns
unfolding shop to_twelve_events first_five_buckets first_six_buckets all_buckets network_buckets
returns c = refl
