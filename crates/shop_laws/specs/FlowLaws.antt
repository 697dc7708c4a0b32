-- What comes to a station is accounted for, and what is told of it keeps count.
use Rattle.std.specs.Prelude.{◌≡◌, ℕ, ◌+◌, ◌%◌, ◌^◌, ◌<◌, ◌==◌, if◌then◌else◌, List, length, slice_index, sum_by}
use Rattle.delta_exchange.specs.Changes.{CellData}
use Rattle.model_core.specs.declared.words.TheConstants.{DOWN_WORD}
use Rattle.run_laws.specs.Reached.{after_events, first_records}
use Rattle.shop_model.specs.declared.station.Station.{Station}
use Rattle.shop_model.specs.declared.station.TheConstants.{LAG}
use Rattle.shop_model.specs.Meaning.{shop_meaning}
use Rattle.shop_model.specs.ShopParts.{ShopParts, IsShop, station_at}
use Rattle.shop_model.specs.Stations.{counts_of, busy_of}
use Rattle.shop_totals.specs.Flows.{flow_of}
use Rattle.shop_totals.specs.Kept.{number_after}
use Rattle.shop_totals.specs.Records.{told_at}
use Rattle.shop_totals.specs.Sums.{after_busy, after_waiting, after_open, after_down}
use Rattle.shop_totals.specs.Told.{TimedPart}
use Rattle.sim_spec.specs.declared.terms.Terms.{Terms}
use Rattle.shop_laws.specs.Told.{cells_at}

-- what is told of an object within the first n events
abbrev pub told_of : ShopParts → Terms → ℕ → ℕ → List TimedPart
told_of p t n i = told_at i (first_records n (shop_meaning p) t)

-- for how many ticks a station stood still, and does, by what `down` told
abbrev pub standstills : List TimedPart → ℕ
standstills told = sum_by (λ (one : TimedPart). if one.part.word == DOWN_WORD then one.part.a else 0) told

-- what is told of a station, beside its cells then
pub record IsAccountedFor (station : Station) (told : List TimedPart) (cells : CellData) : Type 0 where
  pub came : (flow_of told).came ≡ (flow_of told).begun + (flow_of told).lost + (flow_of told).reneged + (counts_of cells).waiting
  pub begun : (flow_of told).begun ≡ (flow_of told).done + busy_of station.most (counts_of cells)
  pub busy : number_after after_busy 0 told ≡ busy_of station.most (counts_of cells)
  pub waiting : number_after after_waiting 0 told ≡ (counts_of cells).waiting
  pub opened : number_after after_open station.servers told ≡ (counts_of cells).opened
  pub down : number_after after_down 0 told ≡ (counts_of cells).down
  pub lag : slice_index cells.words LAG ≡ standstills told % 2 ^ 64

abbrev pub FlowLaw : Type 0
FlowLaw =
    (p : ShopParts) (t : Terms) (n i : ℕ) → IsShop p → i < length p.stations
    → IsAccountedFor (station_at p.stations i) (told_of p t n i) (cells_at (after_events n (shop_meaning p) t) i)
