use Rattle.std.proofs.Common.{◌∙◌, ◌++◌, ap, arith}
use Rattle.shop_model.specs.Meaning.{shop_meaning}
use Rattle.shop_model.specs.ModelLaws.{shop_laws}
use Rattle.shop_model.specs.Views.{parts_of, counted_from}
use Rattle.shop_totals.specs.Forms.{total_lines}
use Rattle.shop_totals.specs.ShopLines.{lines_by, shop_lines}
use Rattle.shop_totals.proofs.ClockLemmas.{clock-stands}
use Rattle.shop_totals.proofs.shop_totals.ShopTotalsTallyShop.put.Goals as goal

pub put_by-requires : goal.put_by-requires
put_by-requires c =
    let p = parts_of c.args.model.now in
    let is = c.requires.1 in
    let stands = clock-stands (shop_meaning p) c.args.terms.now c.requires.0 c.args.stop.now (shop_laws p c.args.model.now.in_range) c.requires.2 in
    (c.requires.0, is, omega (arith, stands.0, c.clock.ensures p (counted_from c.args.model.now) c.requires.0 is))

pub invariant_of-listing : goal.invariant_of-listing
invariant_of-listing c =
    let p = parts_of c.args.model.now in
    let is = c.requires.1 in
    let stands = clock-stands (shop_meaning p) c.args.terms.now c.requires.0 c.args.stop.now (shop_laws p c.args.model.now.in_range) c.requires.2 in
    omega (arith, stands.1, c.clock.ensures p (counted_from c.args.model.now) c.requires.0 is, c.args.terms.now.end_in_range)

pub returns : goal.returns
unfolding shop_lines
returns c records is all =
    let p = parts_of c.args.model.now in
    let first = counted_from c.args.model.now in
    c.in_ok-put_by.ensures records is
    ∙ ap (λ clock. c.args.into.now.items ++ lines_by total_lines p first clock records) (c.clock.ensures p first records is)
