use Rattle.std.proofs.Common.{◌+◌, List, Ok, arith, sym, ap, ◌∙◌}
use Rattle.std.proofs.lemmas.Result.{err_from_is_err_and}
use Rattle.shop_model.specs.declared.station.Station.{Station}
use Rattle.shop_model.specs.ShopParts.{ShopParts, shop_of}
use Rattle.text_fields.specs.Directories.{finder}
use Rattle.shop_text.proofs.ShopParts.{shop-calm, shop-lawful, links_stop, links_done}
use Rattle.shop_text.proofs.body.linked_shop.Goals as goal

pub returns-in_err-classes : goal.returns-in_err-classes
returns-in_err-classes c =
    let refused = err_from_is_err_and c.from_residual.result c.from_residual.ensures.1 in
    rw (refused.1, refused.2)
    (links_stop c.args.seed (c.len.result + 1) (finder c.args.directory.now) c.args.stations.items c.args.named.items c.in_err-classes.field-0.0 (omega arith) c.in_err-classes.ensures)

pub with_levels-requires : goal.with_levels-requires
with_levels-requires c =
    rw c.deref.ensures.value
    (shop-calm (c.len.result + 1) c.args.stations.items c.args.named.items c.in_ok-classes.classes.items (finder c.args.directory.now)
    c.requires.classes c.requires.links c.in_ok-classes.ensures)

pub make-requires : goal.make-requires
make-requires c =
    let levelled = c.deref.ensures.value in
    rw (rw levelled at c.in_ok-levelled.ensures)
    (shop-lawful c.args.seed (c.len.result + 1) c.args.stations.items c.args.named.items c.in_ok-classes.classes.items (finder c.args.directory.now)
    c.requires.seed c.requires.few c.requires.stations c.requires.classes c.requires.few_times c.requires.links c.in_ok-classes.ensures)

pub returns : goal.returns
returns c =
    let levelled = rw c.deref.ensures.value at c.in_ok-levelled.ensures in
    links_done c.args.seed (c.len.result + 1) (finder c.args.directory.now) c.args.stations.items c.args.named.items c.in_ok-classes.classes.items (omega arith) c.in_ok-classes.ensures
    ∙ ap (λ (p : ShopParts). Ok p) (sym (c.in_ok-make.ensures.parts ∙ ap (λ (ss : List Station). shop_of c.args.seed ss c.in_ok-classes.classes.items) levelled))
