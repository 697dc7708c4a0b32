use Rattle.std.proofs.Common.{◌<◌, ℕ, subst, sym}
use Rattle.std.specs.List.{AllPairs}
use Rattle.shop_model.specs.Views.{parts_of}
use Rattle.shop_totals.proofs.VisitorLemmas.{visitors-rise}
use Rattle.shop_totals.proofs.shop_totals.new_station.Goals as goal

pub new-requires : goal.new-requires
new-requires c = subst (AllPairs (λ (a b : ℕ). a < b)) (sym c.in_ok-classes.ensures) (visitors-rise (parts_of c.args.shop.now) c.args.station)
