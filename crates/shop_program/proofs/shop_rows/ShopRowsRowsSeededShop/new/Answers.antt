use Rattle.std.proofs.Common.{[], subst}
use Rattle.shop_model.specs.declared.shop.Shop.{Shop}
use Rattle.shop_totals.specs.Summed.{SumsUp}
use Rattle.shop_program.proofs.shop_rows.ShopRowsRowsSeededShop.new.Goals as goal

pub returns : goal.returns
returns c =
    let Up : Shop → Type 0 = λ shop. SumsUp shop c.in_ok-totals.totals [] in
    subst Up c.shop.ensures c.in_ok-totals.ensures
