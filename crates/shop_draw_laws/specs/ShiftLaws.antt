-- More servers are busy than are open only where a shift closed some in use.
use Rattle.std.specs.Prelude.{◌≡◌, ℕ, ◌<◌, ◌≤◌, [], length}
use Rattle.event_key.specs.declared.key.Key.{Key}
use Rattle.model_core.specs.declared.note.Note.{Note}
use Rattle.run_laws.specs.Reached.{Reaches}
use Rattle.shop_model.specs.Meaning.{shop_meaning}
use Rattle.shop_model.specs.ShopParts.{ShopParts, IsShop, station_at}
use Rattle.shop_model.specs.Stations.{counts_of}
use Rattle.sim_spec.specs.declared.terms.Terms.{Terms}
use Rattle.sim_spec.specs.Run.{does, next}
use Rattle.sim_spec.specs.State.{State}
use Rattle.shop_laws.specs.ServerLaws.{busy_at}
use Rattle.shop_laws.specs.Told.{cells_at}

-- where an event makes a server busy, no more are busy then than are open
abbrev pub BusyRisesWithin : Type 0
BusyRisesWithin =
    (p : ShopParts) (t : Terms) (s : State) (told : Key × Note) (after : State) (i : ℕ) → IsShop p → Reaches (shop_meaning p) t s
    → next (shop_meaning p) t s ≡ does told after → i < length p.stations
    → busy_at s i (station_at p.stations i) < busy_at after i (station_at p.stations i)
    → busy_at after i (station_at p.stations i) ≤ (counts_of (cells_at after i)).opened

-- at a station without shifts no more are ever busy than it has
abbrev pub BusyWithinServers : Type 0
BusyWithinServers =
    (p : ShopParts) (t : Terms) (s : State) (i : ℕ) → IsShop p → Reaches (shop_meaning p) t s → i < length p.stations → (station_at p.stations i).shifts ≡ []
    → busy_at s i (station_at p.stations i) ≤ (station_at p.stations i).servers
