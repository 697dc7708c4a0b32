-- No server idles while a job waits.
use Rattle.std.specs.Prelude.{◌≡◌, ℕ, ◌<◌, ◌≤◌, length, Contains}
use Rattle.event_key.specs.Stamps.{time_part}
use Rattle.model_core.specs.declared.event.Event.{Event}
use Rattle.run_laws.specs.Reached.{after_events}
use Rattle.shop_model.specs.declared.kinds.TheConstants.{CALL}
use Rattle.shop_model.specs.Meaning.{shop_meaning}
use Rattle.shop_model.specs.ShopParts.{ShopParts, IsShop, station_at}
use Rattle.shop_model.specs.Stations.{counts_of, spare_of}
use Rattle.sim_spec.specs.declared.terms.Terms.{Terms}
use Rattle.sim_spec.specs.State.{State}
use Rattle.shop_laws.specs.TimeLaws.{IsClock}
use Rattle.shop_laws.specs.Told.{cells_at}

-- a call is pending at a station, no later than this tick
pub record IsCalled (s : State) (i clock : ℕ) : Type 0 where
  pub call : Event
  pub pending : Contains s.pending call
  pub kind : call.kind ≡ CALL
  pub there : call.key.dest ≡ i
  pub now : time_part call.key.stamp ≤ clock

-- where a job waits and a server is spare, a call is pending at the tick of the last event
abbrev pub NoneIdle : Type 0
NoneIdle =
    (p : ShopParts) (t : Terms) (n i clock : ℕ) → IsShop p → i < length p.stations → IsClock p t n clock
    → (let s = after_events n (shop_meaning p) t in
    0 < (counts_of (cells_at s i)).waiting → 0 < spare_of (station_at p.stations i).most (counts_of (cells_at s i)) → IsCalled s i clock)
