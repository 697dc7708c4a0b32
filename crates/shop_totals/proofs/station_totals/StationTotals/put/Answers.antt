use Rattle.std.proofs.Common.{◌∙◌, ◌++◌, ℕ, List, length, take_all, ap, sym, arith, append-nil}
use Rattle.std.specs.List.{flat_map}
use Rattle.shop_model.specs.Meaning.{shop_meaning}
use Rattle.shop_model.specs.ShopParts.{station_at}
use Rattle.shop_model.specs.Views.{parts_of}
use Rattle.shop_totals.specs.declared.line.Line.TheVariants.{Station}
use Rattle.shop_totals.specs.declared.station_sums.StationSums.{StationSums}
use Rattle.shop_totals.specs.Forms.{named_line}
use Rattle.shop_totals.specs.ShopLines.{visit_line, station_lines}
use Rattle.shop_totals.specs.Sums.{station_sums_of}
use Rattle.shop_totals.specs.Visits.{classes_at}
use Rattle.shop_totals.proofs.LineLemmas.{lines-next}
use Rattle.shop_totals.proofs.ObjectLemmas.{station-object}
use Rattle.shop_totals.proofs.StationLemmas.{passed-sums}
use Rattle.shop_totals.proofs.station_totals.StationTotals.put.Goals as goal

pub put_line-requires : goal.put_line-requires
put_line-requires g c = station-object (parts_of c.args.listing.now.shop.now) c.args.station c.requires.station

pub loop-place-init : goal.loop-place-init
unfolding shop_meaning
loop-place-init g c first parts told is =
    let form = g.F.LineForm.form c.args.listing.now.form.now in
    let p = parts_of c.args.listing.now.shop.now in
    let clock = c.args.listing.now.clock in
    let before = c.args.into.now.items in
    let servers = (station_at p.stations c.args.station).servers in
    let head = named_line form p c.args.station (Station (station_sums_of first servers told clock)) in
    c.in_ok-put_line.ensures
    ∙ ap (λ (sums : StationSums). before ++ named_line form p c.args.station (Station sums))
    (passed-sums first servers (classes_at p c.args.station) told parts clock c.args.self.now c.pass.result is c.pass.ensures.sums)
    ∙ ap (λ (lines : List ℕ). before ++ lines) (sym (append-nil head))

pub loop-place-preserved : goal.loop-place-preserved
loop-place-preserved g c first parts told is =
    let form = g.F.LineForm.form c.args.listing.now.form.now in
    let p = parts_of c.args.listing.now.shop.now in
    let servers = (station_at p.stations c.args.station).servers in
    lines-next (visit_line form p first told c.args.station) (classes_at p c.args.station) c.loop-place.place c.args.into.now.items
    (named_line form p c.args.station (Station (station_sums_of first servers told c.args.listing.now.clock)))
    c.loop-place.into.items c.put_visit.new.into.items
    (omega (arith, ap length is.visitors, c.loop-place-test.true))
    (c.loop-place.invariant first parts told is)
    (c.in_ok-put_visit.ensures first parts told is)

pub returns : goal.returns
unfolding station_lines
returns g c first parts told is =
    let form = g.F.LineForm.form c.args.listing.now.form.now in
    let p = parts_of c.args.listing.now.shop.now in
    let servers = (station_at p.stations c.args.station).servers in
    let head = named_line form p c.args.station (Station (station_sums_of first servers told c.args.listing.now.clock)) in
    c.loop-place.invariant first parts told is
    ∙ ap (λ (classes : List ℕ). c.args.into.now.items ++ (head ++ flat_map (visit_line form p first told c.args.station) classes))
    (take_all c.loop-place.place (classes_at p c.args.station) (omega (arith, ap length is.visitors, c.loop-place-test.false)))
