use Rattle.std.proofs.Common.{◌≡◌, ℕ, ◌++◌, List, take}
use Rattle.std.specs.List.{flat_map}
use Rattle.shop_model.specs.ShopParts.{station_at}
use Rattle.shop_model.specs.Views.{parts_of}
use Rattle.shop_totals.specs.declared.line.Line.TheVariants.{Station}
use Rattle.shop_totals.specs.Forms.{named_line}
use Rattle.shop_totals.specs.ShopLines.{visit_line}
use Rattle.shop_totals.specs.Summed.{SumsUpShopStation}
use Rattle.shop_totals.specs.Sums.{station_sums_of}
use Rattle.shop_totals.specs.Told.{TimedPart}
use Rattle.shop_totals.specs.Visits.{classes_at}
use Rattle.shop_totals.proofs.station_totals.StationTotals.put.Given as goal

abbrev pub invariant-loop-place : goal.invariant-loop-place
invariant-loop-place g l =
    let form = g.F.LineForm.form l.listing.form.now in
    let p = parts_of l.listing.shop.now in
    (first parts : ℕ) (told : List TimedPart) → SumsUpShopStation p first l.station told parts l.self
    → l.into.items ≡ l.fn.into.items
    ++ (named_line form p l.station (Station (station_sums_of first (station_at p.stations l.station).servers told l.listing.clock))
    ++ flat_map (visit_line form p first told l.station) (take l.place (classes_at p l.station)))
