-- Both sides compute to the same.
use Rattle.std.proofs.Common.{refl}
use Rattle.worked_examples.specs.Shop.{shop, to_eleven_events, first_five_buckets, first_six_buckets}
use Rattle.worked_examples.proofs.Computing.{network_buckets}
use Rattle.worked_examples.proofs.limits.a_bucket_up_to_the_limit_is_whole.Goals as goal

pub returns : goal.returns
unfolding shop to_eleven_events first_five_buckets first_six_buckets network_buckets
returns c = refl
