use Rattle.std.proofs.Common.{◌≡◌, ◌∙◌, ◌-◌, ◌++◌, ℕ, List, ap, sym, subst, arith}
use Rattle.shop_model.specs.declared.shop.Shop.{Shop}
use Rattle.shop_model.specs.Views.{parts_of, counted_from}
use Rattle.shop_totals.specs.ShopLines.{clock_of, lines_by}
use Rattle.shop_totals.specs.Summed.{SumsUp}
use Rattle.shop_totals.proofs.ClockLemmas.{clock-stands}
use Rattle.shop_program.specs.RowForms.{row_form, shop_rows}
use Rattle.shop_program.specs.SeededShops.{shop_seeded, seeded_meaning, seeded_laws}
use Rattle.shop_program.proofs.shop_rows.ShopRowsRowsSeededShop.put.Goals as goal

pub put_by-requires : goal.put_by-requires
put_by-requires c =
    let Up : Shop → Type 0 = λ shop. SumsUp shop c.args.self.now.totals c.requires.records in
    let shop = shop_seeded c.args.model.now in
    let stands =
    clock-stands (seeded_meaning c.args.model.now) c.args.terms.now c.requires.records c.args.end.now.stop
    (seeded_laws c.args.model.now) c.requires.of_run in
    (c.requires.records, subst Up (sym c.shop-shop.ensures) c.requires.summed, omega (arith, stands.0, c.clock-clock.ensures (parts_of shop) (counted_from shop) c.requires.records c.requires.summed))

pub invariant_of-listing : goal.invariant_of-listing
invariant_of-listing c =
    let shop = shop_seeded c.args.model.now in
    let stands =
    clock-stands (seeded_meaning c.args.model.now) c.args.terms.now c.requires.records c.args.end.now.stop
    (seeded_laws c.args.model.now) c.requires.of_run in
    record { soon = omega (arith, stands.1, c.clock-clock.ensures (parts_of shop) (counted_from shop) c.requires.records c.requires.summed, c.args.terms.now.end_in_range) }

pub returns : goal.returns
returns c first_tick records is all =
    let before = c.args.into.now.items in
    let end = c.args.end.now in
    let own = shop_seeded c.args.model.now in
    let clock = c.clock-clock.result in
    let Up : Shop → Type 0 = λ shop. SumsUp shop c.args.self.now.totals records in
    let ticks : c.saturating_sub.result ≡ clock - counted_from c.shop-shop.result.now =
    c.saturating_sub.ensures ∙ ap (λ n. clock - n) c.counted_from.ensures in
    c.in_ok-put_by.ensures records (subst Up (sym c.shop-shop.ensures) is)
    ∙ ap (λ n. before ++ lines_by (row_form n end) (parts_of c.shop-shop.result.now) (counted_from c.shop-shop.result.now) clock records) ticks
    ∙ ap (λ (shop : Shop). before ++ lines_by (row_form (clock - counted_from shop) end) (parts_of shop) (counted_from shop) clock records) c.shop-shop.ensures
    ∙ ap (λ clock. before ++ lines_by (row_form (clock - counted_from own) end) (parts_of own) (counted_from own) clock records)
    (c.clock-clock.ensures (parts_of own) (counted_from own) records is)
