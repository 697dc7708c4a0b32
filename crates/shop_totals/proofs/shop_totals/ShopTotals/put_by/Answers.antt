use Rattle.std.proofs.Common.{◌∙◌, ◌++◌, ℕ, List, ap, append_assoc, arith}
use Rattle.shop_model.specs.Views.{parts_of, counted_from}
use Rattle.shop_totals.specs.ShopLines.{all_station_lines, all_class_lines, lines_by}
use Rattle.shop_totals.proofs.shop_totals.ShopTotals.put_by.Goals as goal

pub put_stations-requires-clause-clock : goal.put_stations-requires-clause-clock
put_stations-requires-clause-clock g c = omega (arith, c.requires.2, c.requires.1.last)

pub returns : goal.returns
unfolding lines_by
returns g c records is =
    let p = parts_of c.args.listing.now.shop.now in
    let form = g.F.LineForm.form c.args.listing.now.form.now in
    let first = counted_from c.args.listing.now.shop.now in
    let clock = c.args.listing.now.clock in
    let before = c.args.into.now.items in
    c.in_ok-put_classes.ensures records is
    ∙ ap (λ (lines : List ℕ). lines ++ all_class_lines form p first clock records) (c.in_ok-put_stations.ensures records is)
    ∙ append_assoc before (all_station_lines form p first clock records) (all_class_lines form p first clock records)
