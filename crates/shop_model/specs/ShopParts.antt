-- The parts of which a shop is made, and their bounds.
use Rattle.std.specs.Prelude.{◌≡◌, ℕ, ◌+◌, ◌^◌, ◌<◌, ◌≤◌, max, List, [], length, All, None, slice_index_or, sum_by}
use Rattle.std.specs.List.{AllPairs, fold}
use Rattle.std.specs.Option.{ForSome}
use Rattle.shop_model.specs.declared.class.Class.{Class}
use Rattle.shop_model.specs.declared.class.TheConstants.{MOST_TIMES}
use Rattle.shop_model.specs.declared.routes.Routes.{Routes}
use Rattle.shop_model.specs.declared.station.Order.{Order}
use Rattle.shop_model.specs.declared.station.Order.TheVariants.{First, Last, Priority}
use Rattle.shop_model.specs.declared.station.Shift.{Shift}
use Rattle.shop_model.specs.declared.station.Station.{Station}
use Rattle.shop_model.specs.HasStation.{IsStation}
use Rattle.shop_model.specs.Parts.{AreRoutes}

-- a seed, the stations, and the classes of jobs
pub record ShopParts : Type 0 where
  pub seed : ℕ
  pub stations : List Station
  pub classes : List Class

abbrev pub shop_of : ℕ → List Station → List Class → ShopParts
shop_of seed stations classes = record { seed = seed; stations = stations; classes = classes }

-- the same parts with another seed
abbrev pub shop_under : ℕ → ShopParts → ShopParts
shop_under seed p = shop_of seed p.stations p.classes

abbrev pub routes_of : ShopParts → Routes
routes_of p = record { stations = length p.stations; classes = p.classes }

-- what stands for a station where there is none
abbrev pub no_station : Station
no_station = record { name = []; servers = 0; most = 0; line = 0; order = First; levels = 1; shifts = []; period = None; breakdowns = None }

-- the stations are numbered from 0 on, in their order
abbrev pub station_at : List Station → ℕ → Station
station_at stations number = slice_index_or stations number no_station

-- the most servers that are ever open
abbrev pub most_open : ℕ → List Shift → ℕ
most_open servers shifts = fold (λ most (shift : Shift). max most shift.servers) servers shifts

-- the calmest priority of any class
abbrev pub calmest : List Class → ℕ
calmest classes = fold (λ priority (class : Class). max priority class.priority) 0 classes

-- a line has one level, or where the urgent are called first one for each priority up to the calmest
abbrev pub levels_of : Order → List Class → ℕ
levels_of Priority classes = calmest classes + 1
levels_of First classes = 1
levels_of Last classes = 1

-- a station of a shop with these classes, whose shifts begin one after another, all of them within a period
pub record IsStationOf (classes : List Class) (station : Station) : Type 0 where
  pub numbers : IsStation station
  pub most : station.most ≡ most_open station.servers station.shifts
  pub levels : station.levels ≡ levels_of station.order classes
  pub rising : AllPairs (λ (a b : Shift). a.at < b.at) station.shifts
  pub again : ForSome station.period (λ period. All (λ (shift : Shift). shift.at < period) station.shifts)

pub record IsShop (p : ShopParts) : Type 0 where
  pub seed : p.seed < 2 ^ 63
  pub routes : AreRoutes (routes_of p)
  pub stations : All (IsStationOf p.classes) p.stations
  pub few_times : sum_by (λ (class : Class). length class.times) p.classes ≤ MOST_TIMES
