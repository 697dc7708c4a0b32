-- What totals keep has summed up what is told.
use Rattle.std.specs.Prelude.{◌≡◌, ℕ, ◌+◌, ◌*◌, ◌<◌, ◌≤◌, List, [], All, get_or, length, map, ◌++◌}
use Rattle.std.specs.List.{AllPairs}
use Rattle.event_key.specs.declared.key.Key.{Key}
use Rattle.model_core.specs.declared.limits.TheConstants.{MOST_EVENTS}
use Rattle.model_core.specs.declared.note.Note.{Note}
use Rattle.run_tally.specs.Tallies.{last_time}
use Rattle.shop_model.specs.declared.shop.Shop.{Shop}
use Rattle.shop_model.specs.ShopParts.{ShopParts, station_at}
use Rattle.shop_model.specs.Views.{parts_of, counted_from}
use Rattle.shop_totals.specs.declared.class_sums.ClassSums.{ClassSums}
use Rattle.shop_totals.specs.declared.shop_totals.ShopTotals.{ShopTotals}
use Rattle.shop_totals.specs.declared.station_totals.StationTotals.{StationTotals}
use Rattle.shop_totals.specs.declared.visit_sums.VisitSums.{VisitSums}
use Rattle.shop_totals.specs.Records.{told_at, of_class}
use Rattle.shop_totals.specs.Sums.{station_sums_of, visit_sums_of, class_sums_of, IsWithin, IsVisitWithin, IsClassWithin}
use Rattle.shop_totals.specs.Told.{TimedPart, told_from, AreBy}
use Rattle.shop_totals.specs.Visits.{classes_at}

-- the sums of a class at a station of which this is told, from the first tick on
abbrev pub visit_of : ℕ → List TimedPart → ℕ → VisitSums
visit_of first told class = visit_sums_of (told_from first (of_class class told))

-- at most so many parts told of a station with so many servers, and of each of these classes there
pub record SumsUpStation (first servers : ℕ) (classes : List ℕ) (told : List TimedPart) (parts : ℕ) (totals : StationTotals) : Type 0 where
  pub since : totals.sums.first ≡ first
  pub by : AreBy totals.sums.clock told
  pub sums : totals.sums ≡ station_sums_of first servers told totals.sums.clock
  pub within : IsWithin parts totals.sums
  pub visitors : totals.classes.items ≡ classes
  pub rising : AllPairs (λ (a b : ℕ). a < b) classes
  pub visits : totals.visits.items ≡ map (visit_of first told) classes
  pub visits_within : All (IsVisitWithin parts) totals.visits.items

-- at most so many parts told of station k of a shop
abbrev pub SumsUpShopStation : ShopParts → ℕ → ℕ → List TimedPart → ℕ → StationTotals → Type 0
SumsUpShopStation p first k told parts totals = SumsUpStation first (station_at p.stations k).servers (classes_at p k) told parts totals

-- at most so many parts told of a class
pub record SumsUpClass (first : ℕ) (told : List TimedPart) (parts : ℕ) (totals : ClassSums) : Type 0 where
  pub since : totals.first ≡ first
  pub by : AreBy totals.clock told
  pub sums : totals ≡ class_sums_of first told totals.clock
  pub within : IsClassWithin parts totals

-- the totals of a station sum up these records, the last of them at this time
abbrev pub SumsUpAtStation : ShopParts → ℕ → List (Key × Note) → ℕ → ℕ → StationTotals → Type 0
SumsUpAtStation p first records last k totals =
    SumsUpShopStation p first k (told_at k records) (4 * length records) totals × (totals.sums.clock ≤ last)

-- so do the sums of a class
abbrev pub SumsUpAtClass : ShopParts → ℕ → List (Key × Note) → ℕ → ℕ → ClassSums → Type 0
SumsUpAtClass p first records last k totals =
    SumsUpClass first (told_at (length p.stations + k) records) (4 * length records) totals × (totals.clock ≤ last)

-- the totals of a shop sum up these records, from the first tick on
pub record SumsUpShop (p : ShopParts) (first : ℕ) (totals : ShopTotals) (records : List (Key × Note)) : Type 0 where
  pub few : length records ≤ MOST_EVENTS
  pub last : totals.last ≡ last_time 0 records
  pub station_count : length totals.stations.items ≡ length p.stations
  pub stations : (k : ℕ) (none : StationTotals) → k < length p.stations
      → SumsUpAtStation p first records totals.last k (get_or totals.stations.items k none)
  pub class_count : length totals.classes.items ≡ length p.classes
  pub classes : (k : ℕ) (none : ClassSums) → k < length p.classes → SumsUpAtClass p first records totals.last k (get_or totals.classes.items k none)

-- so they do for the parts of this shop, from the tick on from which it counts
abbrev pub SumsUp : Shop → ShopTotals → List (Key × Note) → Type 0
SumsUp shop totals records = SumsUpShop (parts_of shop) (counted_from shop) totals records

-- what such records give is appended
abbrev pub AppendsSummed : Shop → ShopTotals → (List (Key × Note) → List ℕ) → List ℕ → List ℕ → Type 0
AppendsSummed shop totals text before after = (records : List (Key × Note)) → SumsUp shop totals records → after ≡ before ++ text records

-- of a station nothing was told yet
abbrev pub IsNewStation : ShopParts → ℕ → ℕ → StationTotals → Type 0
IsNewStation p first k totals = SumsUpShopStation p first k [] 0 totals × (totals.sums.clock ≡ 0)

-- nor of the first n stations
abbrev pub AreNewStations : ShopParts → ℕ → ℕ → List StationTotals → Type 0
AreNewStations p first n all = (length all ≡ n) × ((k : ℕ) (none : StationTotals) → k < n → IsNewStation p first k (get_or all k none))
