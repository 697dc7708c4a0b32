-- What comes to a station is accounted for, class by class.
use Rattle.std.specs.Prelude.{◌≡◌, ℕ, ◌+◌, ◌<◌, ◌==◌, length}
use Rattle.std.specs.Int.{from_bool}
use Rattle.delta_exchange.specs.Changes.{CellData, line_of}
use Rattle.run_laws.specs.Reached.{after_events}
use Rattle.shop_model.specs.declared.station.Station.{Station}
use Rattle.shop_model.specs.Jobs.{class_of}
use Rattle.shop_model.specs.Meaning.{shop_meaning}
use Rattle.shop_model.specs.ShopParts.{ShopParts, IsShop, station_at}
use Rattle.shop_totals.specs.Flows.{flow_of}
use Rattle.shop_totals.specs.Records.{of_class}
use Rattle.sim_spec.specs.declared.terms.Terms.{Terms}
use Rattle.shop_laws.specs.FlowLaws.{told_of}
use Rattle.shop_laws.specs.Told.{cells_at}
use Rattle.shop_laws.specs.Waiting.{sum_in_line}

-- how many jobs of a class wait at a station
abbrev pub waiting_of : Station → CellData → ℕ → ℕ
waiting_of station cells class = sum_in_line (λ a birth since. from_bool (class_of a == class)) (λ k. line_of cells k) station.levels

-- the jobs of a class that came are those that began, were lost, reneged and wait
abbrev pub ClassFlow : Type 0
ClassFlow =
    (p : ShopParts) (t : Terms) (n i class : ℕ) → IsShop p → i < length p.stations
    → (let flow = flow_of (of_class class (told_of p t n i)) in
    flow.came ≡ flow.begun + flow.lost + flow.reneged + waiting_of (station_at p.stations i) (cells_at (after_events n (shop_meaning p) t) i) class)
