-- A station that breaks down works and stands still in turn.
use Rattle.std.specs.Prelude.{◌≡◌, ℕ, ◌<◌, Bool, ◌==◌, ◌&&◌, ◌||◌, length, count_by, None, Some}
use Rattle.model_core.specs.declared.event.Event.{Event}
use Rattle.run_laws.specs.Reached.{Reaches}
use Rattle.shop_model.specs.declared.kinds.TheConstants.{BREAK, MEND}
use Rattle.shop_model.specs.declared.station.Breakdowns.{Breakdowns}
use Rattle.shop_model.specs.declared.station.Station.{Station}
use Rattle.shop_model.specs.Meaning.{shop_meaning}
use Rattle.shop_model.specs.ShopParts.{ShopParts, IsShop, station_at}
use Rattle.sim_spec.specs.declared.terms.Terms.{Terms}
use Rattle.sim_spec.specs.State.{State}

-- a pending event breaks this station down, or repairs it
abbrev pub turns : ℕ → Event → Bool
turns i e = (e.kind == BREAK || e.kind == MEND) && e.key.dest == i

-- where a station breaks down one of these is pending, and where it never does none
pub record IsInTurn (s : State) (i : ℕ) (station : Station) : Type 0 where
  pub one : (breakdowns : Breakdowns) → station.breakdowns ≡ Some breakdowns → count_by (turns i) s.pending ≡ 1
  pub none : station.breakdowns ≡ None → count_by (turns i) s.pending ≡ 0

abbrev pub BreaksInTurn : Type 0
BreaksInTurn =
    (p : ShopParts) (t : Terms) (s : State) (i : ℕ) → IsShop p → Reaches (shop_meaning p) t s → i < length p.stations
    → IsInTurn s i (station_at p.stations i)
