use Rattle.std.proofs.Common.{◌≡◌, ◌∙◌, ℕ, ◌+◌, ◌*◌, ◌<◌, ◌++◌, List, length, subst, sym, ap, arith}
use Rattle.std.specs.List.{flat_map, range_with_len}
use Rattle.shop_model.specs.Meaning.{shop_meaning}
use Rattle.shop_model.specs.Views.{parts_of, counted_from}
use Rattle.shop_totals.specs.declared.class_sums.ClassSums.{ClassSums}
use Rattle.shop_totals.specs.declared.line.Line.TheVariants.{Class}
use Rattle.shop_totals.specs.Forms.{named_line}
use Rattle.shop_totals.specs.Records.{told_at}
use Rattle.shop_totals.specs.ShopLines.{class_line}
use Rattle.shop_totals.specs.Summed.{SumsUpAtClass}
use Rattle.shop_totals.proofs.ClassLemmas.{passed-class}
use Rattle.shop_totals.proofs.LineLemmas.{numbered-next}
use Rattle.shop_totals.proofs.ObjectLemmas.{class-object}
use Rattle.shop_totals.proofs.shop_totals.ShopTotals.put_classes.Goals as goal

pub put_line-requires : goal.put_line-requires
put_line-requires g c =
    let p = parts_of c.args.listing.now.shop.now in
    let is = c.requires.sums.1 in
    let object = class-object p c.loop-number.number (omega (arith, c.loop-number-test.true, c.len-number-end.ensures, is.class_count)) in
    omega (arith, object, c.len.ensures, is.station_count)

pub loop-number-preserved : goal.loop-number-preserved
unfolding shop_meaning class_line
loop-number-preserved g c records is =
    let form = g.F.LineForm.form c.args.listing.now.form.now in
    let p = parts_of c.args.listing.now.shop.now in
    let first = counted_from c.args.listing.now.shop.now in
    let n = c.loop-number.number in
    let told = told_at (length p.stations + n) records in
    let f : ℕ → List ℕ = λ class. class_line form p first c.args.listing.now.clock (told_at (length p.stations + class) records) class in
    let below : n < length p.classes = omega (arith, c.loop-number-test.true, c.len-number-end.ensures, is.class_count) in
    let At : ClassSums → Type 0 = SumsUpAtClass p first records c.args.self.now.last n in
    let own : At c.index.result.now =
    subst At (sym c.index.ensures) (is.classes n c.index.result.now below) in
    let object : c.len.result + n ≡ length p.stations + n = omega (arith, c.len.ensures, is.station_count) in
    numbered-next f n c.args.into.now.items c.loop-number.into.items c.put_line.new.into.items
    (c.loop-number.invariant records is)
    (c.in_ok-put_line.ensures
    ∙ ap (λ object. c.loop-number.into.items ++ named_line form p object (Class c.pass-sums.result)) object
    ∙ ap (λ (sums : ClassSums). c.loop-number.into.items ++ named_line form p (length p.stations + n) (Class sums))
    (passed-class first told (4 * length records) c.args.listing.now.clock c.index.result.now c.pass-sums.result own.0 c.pass-sums.ensures.sums))

pub returns : goal.returns
returns g c records is =
    let p = parts_of c.args.listing.now.shop.now in
    let first = counted_from c.args.listing.now.shop.now in
    let form = g.F.LineForm.form c.args.listing.now.form.now in
    let f : ℕ → List ℕ = λ class. class_line form p first c.args.listing.now.clock (told_at (length p.stations + class) records) class in
    let all : c.loop-number.number ≡ length p.classes =
    omega (arith, c.loop-number-test.false, c.loop-number.auto.number-end, c.len-number-end.ensures, is.class_count) in
    c.loop-number.invariant records is ∙ ap (λ n. c.args.into.now.items ++ flat_map f (range_with_len 0 n)) all
