use Rattle.shop_model.specs.Views.{parts_of, counted_from}
use Rattle.shop_totals.specs.Summed.{AreNewStations}
use Rattle.shop_totals.proofs.shop_totals.new_stations.Given as goal

abbrev pub invariant-loop-number : goal.invariant-loop-number
invariant-loop-number l = AreNewStations (parts_of l.shop) (counted_from l.shop) l.number l.all.items
