use Rattle.std.proofs.Common.{◌++◌, ◌∷◌, [], List, subst, sym}
use Rattle.event_key.specs.declared.key.Key.{Key}
use Rattle.model_core.specs.declared.note.Note.{Note}
use Rattle.shop_model.specs.declared.shop.Shop.{Shop}
use Rattle.shop_totals.specs.Summed.{SumsUp}
use Rattle.shop_program.proofs.SeedLemmas.{can_come-seeded}
use Rattle.shop_program.proofs.shop_rows.ShopRowsRowsSeededShop.add.Goals as goal

pub add-requires : goal.add-requires
add-requires c =
    let Up : Shop → Type 0 = λ shop. SumsUp shop c.args.self.now.totals c.requires.records in
    (c.requires.records, subst Up (sym c.shop.ensures) c.requires.summed, can_come-seeded c.args.model.now c.shop.result.now c.requires.records _ c.shop.ensures c.requires.can_come)

pub returns : goal.returns
returns c first_tick records is can =
    let told : Key × Note = (c.args.key.now, c.args.parts.now) in
    let Up : Shop → Type 0 = λ shop. SumsUp shop c.args.self.now.totals records in
    let More : Shop → Type 0 = λ shop. SumsUp shop c.add.new.self (records ++ told ∷ []) in
    subst More c.shop.ensures
    (c.add.ensures records (subst Up (sym c.shop.ensures) is) (can_come-seeded c.args.model.now c.shop.result.now records told c.shop.ensures can))
