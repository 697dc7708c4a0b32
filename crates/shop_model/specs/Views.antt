-- What the code keeps, in the words of the definitions.
use Rattle.std.specs.Prelude.{ℕ}
use Rattle.shop_model.specs.declared.shop.Shop.{Shop}
use Rattle.shop_model.specs.ShopParts.{ShopParts, shop_of}

-- the parts of a shop
abbrev pub parts_of : Shop → ShopParts
parts_of shop = shop_of shop.seed shop.stations.items shop.routes.classes

-- the tick from which on its totals count
abbrev pub counted_from : Shop → ℕ
counted_from shop = shop.counted_from
