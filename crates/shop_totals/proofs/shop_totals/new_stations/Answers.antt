use Rattle.std.proofs.Common.{◌+◌, subst, sym}
use Rattle.shop_model.specs.Views.{parts_of, counted_from}
use Rattle.shop_totals.specs.Summed.{AreNewStations}
use Rattle.shop_totals.proofs.ShopLemmas.{stations-more}
use Rattle.shop_totals.proofs.shop_totals.new_stations.Goals as goal

pub loop-number-preserved : goal.loop-number-preserved
loop-number-preserved c =
    let p = parts_of c.args.shop.now in
    let first = counted_from c.args.shop.now in
    subst (AreNewStations p first (c.loop-number.number + 1)) (sym c.in_ok-push.ensures.items)
    (stations-more p first c.loop-number.number c.loop-number.all.items c.in_ok-totals.totals c.loop-number.invariant c.in_ok-totals.ensures)
