use Rattle.std.proofs.Common.{◌≡◌, ◌∙◌, ℕ, ◌*◌, ◌<◌, ◌++◌, List, length, subst, sym, ap, arith}
use Rattle.std.specs.List.{flat_map, range_with_len}
use Rattle.shop_model.specs.Views.{parts_of, counted_from}
use Rattle.shop_totals.specs.declared.station_totals.StationTotals.{StationTotals}
use Rattle.shop_totals.specs.Records.{told_at}
use Rattle.shop_totals.specs.ShopLines.{station_lines}
use Rattle.shop_totals.specs.Summed.{SumsUpAtStation}
use Rattle.shop_totals.proofs.LineLemmas.{numbered-next}
use Rattle.shop_totals.proofs.shop_totals.ShopTotals.put_stations.Goals as goal

pub loop-number-preserved : goal.loop-number-preserved
loop-number-preserved g c records is =
    let p = parts_of c.args.listing.now.shop.now in
    let first = counted_from c.args.listing.now.shop.now in
    let n = c.loop-number.number in
    let form = g.F.LineForm.form c.args.listing.now.form.now in
    let f : ℕ → List ℕ = λ station. station_lines form p first c.args.listing.now.clock (told_at station records) station in
    let below : n < length p.stations = omega (arith, c.loop-number-test.true, c.len-number-end.ensures, is.station_count) in
    let At : StationTotals → Type 0 = SumsUpAtStation p first records c.args.self.now.last n in
    let own : At c.index-station.result.now =
    subst At (sym c.index-station.ensures) (is.stations n c.index-station.result.now below) in
    numbered-next f n c.args.into.now.items c.loop-number.into.items c.put.new.into.items
    (c.loop-number.invariant records is)
    (c.in_ok-put.ensures first (4 * length records) (told_at n records) own.0)

pub returns : goal.returns
returns g c records is =
    let p = parts_of c.args.listing.now.shop.now in
    let first = counted_from c.args.listing.now.shop.now in
    let form = g.F.LineForm.form c.args.listing.now.form.now in
    let f : ℕ → List ℕ = λ station. station_lines form p first c.args.listing.now.clock (told_at station records) station in
    let all : c.loop-number.number ≡ length p.stations =
    omega (arith, c.loop-number-test.false, c.loop-number.auto.number-end, c.len-number-end.ensures, is.station_count) in
    c.loop-number.invariant records is ∙ ap (λ n. c.args.into.now.items ++ flat_map f (range_with_len 0 n)) all
