-- A shop with a seed in place of its own.
use Rattle.std.specs.Arc.{arc_value}
use Rattle.model_core.specs.Meaning.{Meaning, MeaningLaws}
use Rattle.shop_model.specs.declared.shop.Shop.{Shop}
use Rattle.shop_model.specs.Meaning.{shop_meaning}
use Rattle.shop_model.specs.ModelLaws.{shop_laws, is_shop_under}
use Rattle.shop_model.specs.ShopParts.{ShopParts, shop_under}
use Rattle.shop_model.specs.Views.{parts_of}
use Rattle.shop_program.specs.declared.seeded.SeededShop.{SeededShop}

abbrev pub shop_seeded : SeededShop → Shop
shop_seeded seeded = arc_value seeded.shop

-- its parts, with the other seed
abbrev pub parts_seeded : SeededShop → ShopParts
parts_seeded seeded = shop_under seeded.seed (parts_of (shop_seeded seeded))

abbrev pub seeded_meaning : SeededShop → Meaning
seeded_meaning seeded = shop_meaning (parts_seeded seeded)

pub seeded_laws : (seeded : SeededShop) → MeaningLaws (seeded_meaning seeded)
seeded_laws seeded =
    shop_laws (parts_seeded seeded) (is_shop_under seeded.seed seeded.in_range (parts_of (shop_seeded seeded)) (shop_seeded seeded).in_range)
