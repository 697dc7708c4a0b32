-- Servers: each is free or serves one job, and a job begins only where one is spare.
use Rattle.std.specs.Prelude.{◌≡◌, ℕ, ◌+◌, ◌<◌, ◌≤◌, Bool, true, ◌==◌, ◌&&◌, List, length, count_by}
use Rattle.delta_exchange.specs.Changes.{line_of}
use Rattle.event_key.specs.declared.key.Key.{Key}
use Rattle.model_core.specs.declared.event.Event.{Event}
use Rattle.model_core.specs.declared.note.Note.{Note}
use Rattle.run_laws.specs.Reached.{Reaches}
use Rattle.shop_model.specs.declared.kinds.TheConstants.{DONE}
use Rattle.shop_model.specs.declared.station.Station.{Station}
use Rattle.shop_model.specs.declared.station.TheConstants.{FREE_SERVERS}
use Rattle.shop_model.specs.Jobs.{server_of}
use Rattle.shop_model.specs.Meaning.{shop_meaning}
use Rattle.shop_model.specs.ShopParts.{ShopParts, IsShop, station_at}
use Rattle.shop_model.specs.Stations.{counts_of, busy_of}
use Rattle.shop_totals.specs.Flows.{is_beginning}
use Rattle.sim_spec.specs.declared.terms.Terms.{Terms}
use Rattle.sim_spec.specs.Run.{does, next}
use Rattle.sim_spec.specs.State.{State}
use Rattle.shop_laws.specs.Told.{word_told, cells_at}

-- the servers of a station that serve nobody
abbrev pub free_at : State → ℕ → List ℕ
free_at s i = line_of (cells_at s i) FREE_SERVERS

-- a pending event is the end of a service by this server of this station
abbrev pub ends_by : ℕ → ℕ → Event → Bool
ends_by i server e = e.kind == DONE && (e.key.dest == i && server_of e.b == server)

-- how many are busy: they serve a job, or are held
abbrev pub busy_at : State → ℕ → Station → ℕ
busy_at s i station = busy_of station.most (counts_of (cells_at s i))

-- each server that a station ever has serves nobody or one job, and no more are busy than there are
pub record AreServers (s : State) (i : ℕ) (station : Station) : Type 0 where
  pub each_once : (server : ℕ) → server < station.most → count_by (λ free. free == server) (free_at s i) + count_by (ends_by i server) s.pending ≡ 1
  pub no_others : (server : ℕ) → station.most ≤ server → count_by (λ free. free == server) (free_at s i) + count_by (ends_by i server) s.pending ≡ 0
  pub no_more : busy_at s i station ≤ station.most

abbrev pub ServersLaw : Type 0
ServersLaw =
    (p : ShopParts) (t : Terms) (s : State) (i : ℕ) → IsShop p → i < length p.stations → Reaches (shop_meaning p) t s
    → AreServers s i (station_at p.stations i)

-- fewer servers are busy than are open, and the station works
pub record IsSpare (s : State) (i : ℕ) (station : Station) : Type 0 where
  pub works : (counts_of (cells_at s i)).down ≡ 0
  pub some : busy_at s i station < (counts_of (cells_at s i)).opened

-- a job begins, by `take` or `call`, only where a server is spare
abbrev pub BeginningsLaw : Type 0
BeginningsLaw =
    (p : ShopParts) (t : Terms) (s : State) (told : Key × Note) (after : State) → IsShop p → Reaches (shop_meaning p) t s
    → next (shop_meaning p) t s ≡ does told after → told.0.dest < length p.stations → is_beginning (word_told told.1) ≡ true
    → IsSpare s told.0.dest (station_at p.stations told.0.dest)
