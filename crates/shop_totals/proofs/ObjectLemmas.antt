-- The objects of a shop, and their names.
use Rattle.std.proofs.Common.{◌≡◌, ◌∙◌, ℕ, ◌+◌, ◌^◌, ◌<◌, List, length, get_or, arith, subst, sym, ap}
use Rattle.shop_model.specs.Meaning.{shop_meaning}
use Rattle.shop_model.specs.ShopParts.{ShopParts, IsShop}
use Rattle.shop_totals.specs.declared.station_totals.StationTotals.{StationTotals}
use Rattle.shop_totals.specs.Summed.{SumsUpStation}
use Rattle.shop_totals.specs.Told.{TimedPart}
use Rattle.shop_totals.specs.Visits.{classes_at}
use Rattle.shop_totals.proofs.VisitorLemmas.{visitors-exist}

pub station-object : (p : ShopParts) (station : ℕ) → station < length p.stations → station < (shop_meaning p).objects
unfolding shop_meaning
station-object p station is = omega arith

pub class-object : (p : ShopParts) (class : ℕ) → class < length p.classes → length p.stations + class < (shop_meaning p).objects
unfolding shop_meaning
class-object p class is = omega arith

-- a class that visits a station is one of few
pub visitor-few : (p : ShopParts) (station place class : ℕ) (first servers : ℕ) (told : List TimedPart) (parts : ℕ) (totals : StationTotals)
    → IsShop p
    → SumsUpStation first servers (classes_at p station) told parts totals → place < length (classes_at p station)
    → class ≡ get_or totals.classes.items place class
    → (class < length p.classes) × (length p.stations + class < 2 ^ 17)
visitor-few p station place class first servers told parts totals shop is within read =
    let Below : ℕ → Type 0 = λ class. class < length p.classes in
    let at : get_or (classes_at p station) place class ≡ class = ap (λ (classes : List ℕ). get_or classes place class) (sym is.visitors) ∙ sym read in
    let below : class < length p.classes = subst Below at (visitors-exist p station place class within) in
    let few = shop.routes.few in
    (below, omega (arith, below, few))
