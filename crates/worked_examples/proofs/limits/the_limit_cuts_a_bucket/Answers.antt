-- Both sides compute to the same.
use Rattle.std.proofs.Common.{refl}
use Rattle.worked_examples.specs.Shop.{shop, to_ten_events, first_five_buckets, cut_buckets}
use Rattle.worked_examples.proofs.Computing.{network_buckets}
use Rattle.worked_examples.proofs.limits.the_limit_cuts_a_bucket.Goals as goal

pub returns : goal.returns
unfolding shop to_ten_events first_five_buckets cut_buckets network_buckets
returns c = refl
