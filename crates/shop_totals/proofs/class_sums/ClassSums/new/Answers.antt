use Rattle.shop_totals.specs.Sums.{after_inside, class_sums_of}
use Rattle.shop_totals.proofs.KeptLemmas.{kept_none}
use Rattle.shop_totals.proofs.class_sums.ClassSums.new.Goals as goal

pub returns-clause-sums : goal.returns-clause-sums
unfolding class_sums_of
returns-clause-sums c =
    let inside = kept_none after_inside 0 c.args.first c.new.result c.new.ensures in
    cc (inside)
