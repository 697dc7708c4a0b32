use Rattle.std.proofs.Common.{◌≡◌, ◌∙◌, ℕ, ◌+◌, ◌*◌, ◌-◌, ◌^◌, ◌<◌, ◌++◌, length, subst, sym, refl, arith}
use Rattle.event_key.specs.declared.key.Key.{Key}
use Rattle.model_core.specs.declared.note.Note.{Note}
use Rattle.shop_model.specs.Meaning.{shop_meaning}
use Rattle.shop_model.specs.ShopParts.{station_at}
use Rattle.shop_model.specs.Views.{parts_of, counted_from}
use Rattle.shop_totals.specs.declared.station_totals.StationTotals.{StationTotals}
use Rattle.shop_totals.specs.Records.{parts_at, told_at}
use Rattle.shop_totals.specs.Summed.{SumsUpShopStation, SumsUpClass, SumsUpAtStation}
use Rattle.shop_totals.specs.Visits.{classes_at}
use Rattle.shop_totals.proofs.BoundLemmas.{class-within}
use Rattle.shop_totals.proofs.ShopLemmas.{class-before, shop-station, shop-class}
use Rattle.shop_totals.proofs.shop_totals.ShopTotalsTallyShop.add.Goals as goal

pub add-requires-clause-soon : goal.add-requires-clause-soon
add-requires-clause-soon c = omega (arith, c.time_of-time.ensures)

pub returns-then-object-stations : goal.returns-then-object-stations
returns-then-object-stations c records is can =
    let p = parts_of c.args._model.now in
    let first = counted_from c.args._model.now in
    let told : Key × Note = (c.args.key.now, c.args.parts.now) in
    let k = c.args.key.now.dest in
    let exists : k < length p.stations = omega (arith, c.if-object-stations.true, c.len-stations.ensures, is.station_count) in
    let old = c.index_mut-totals.result.now in
    let At : StationTotals → Type 0 = SumsUpAtStation p first records c.args.self.now.last k in
    let before : At old = subst At (sym c.index_mut-totals.ensures.value) (is.stations k old exists) in
    let Sums : ℕ → Type 0 =
    λ time. SumsUpShopStation p first k (told_at k records ++ parts_at time c.args.parts.now) (4 * length records + 4) c.add.new.self in
    shop-station p first records told c.args.self.now _ c.add.new.self is can.room exists can.in_time refl refl c.time_of-time.ensures
    (subst Sums c.time_of-time.ensures
    (c.add.ensures.sums first (station_at p.stations k).servers (classes_at p k) (told_at k records) (4 * length records) before.0))
    (c.add.ensures.clock ∙ c.time_of-time.ensures)

pub index_mut-sums-requires : goal.index_mut-sums-requires
unfolding shop_meaning
index_mut-sums-requires c =
    let is = c.requires.1 in
    let object = c.requires.2.object in
    omega (arith, c.if-object-stations.false, c.len-stations.ensures, is.station_count, is.class_count, object)

pub and_all-requires-clause-time : goal.and_all-requires-clause-time
unfolding shop_meaning
and_all-requires-clause-time c =
    let is = c.requires.1 in
    let before = class-before (parts_of c.args._model.now) (counted_from c.args._model.now) c.requires.0 c.args.self.now c.args.key.now.dest c.len-stations.result c.index_mut-sums.result.now is
    c.requires.2.object (omega (arith, c.len-stations.ensures, is.station_count)) c.if-object-stations.false c.index_mut-sums.ensures.value in
    omega (arith, before.1, is.last, c.requires.2.in_time, c.time_of-time.ensures)

pub and_all-requires-clause-soon : goal.and_all-requires-clause-soon
and_all-requires-clause-soon c = omega (arith, c.time_of-time.ensures)

pub and_all-requires-clause-room : goal.and_all-requires-clause-room
unfolding shop_meaning
and_all-requires-clause-room c =
    let is = c.requires.1 in
    let before = class-before (parts_of c.args._model.now) (counted_from c.args._model.now) c.requires.0 c.args.self.now c.args.key.now.dest c.len-stations.result c.index_mut-sums.result.now is
    c.requires.2.object (omega (arith, c.len-stations.ensures, is.station_count)) c.if-object-stations.false c.index_mut-sums.ensures.value in
    class-within (4 * length c.requires.0) (2 ^ 61) c.index_mut-sums.result.now (omega (arith, is.few)) before.0.within

pub returns : goal.returns
unfolding shop_meaning
returns c records is can =
    let p = parts_of c.args._model.now in
    let first = counted_from c.args._model.now in
    let told : Key × Note = (c.args.key.now, c.args.parts.now) in
    let object = can.object in
    let k = c.args.key.now.dest in
    let class = k - c.len-stations.result in
    let dest : k ≡ length p.stations + class = omega (arith, c.if-object-stations.false, c.len-stations.ensures, is.station_count) in
    let exists : class < length p.classes = omega (arith, dest, object) in
    let old = c.index_mut-sums.result.now in
    let before =
    class-before p first records c.args.self.now k c.len-stations.result old is object
    (omega (arith, c.len-stations.ensures, is.station_count)) c.if-object-stations.false c.index_mut-sums.ensures.value in
    let Own : ℕ → Type 0 = λ object. SumsUpClass first (told_at object records) (4 * length records) old in
    let Sums : ℕ → Type 0 =
    λ time. SumsUpClass first (told_at k records ++ parts_at time c.args.parts.now) (4 * length records + 4) c.and_all.result in
    shop-class p first records told class c.args.self.now _ c.and_all.result is can.room dest exists can.in_time refl refl c.time_of-time.ensures
    (subst Sums c.time_of-time.ensures (c.and_all.ensures.sums first (told_at k records) (4 * length records) (subst Own (sym dest) before.0)))
    (c.and_all.ensures.clock ∙ c.time_of-time.ensures)
