-- First come, first served.
use Rattle.std.specs.Prelude.{◌≡◌, ℕ, ◌++◌}
use Rattle.sim_spec.specs.declared.terms.Terms.{Terms}
use Rattle.sim_spec.specs.State.{State}
use Rattle.queue_models.specs.declared.station.Station.{Station}
use Rattle.queue_models.specs.Meaning.{network_meaning}
use Rattle.queue_models.specs.Objects.{NetworkParts}
use Rattle.queue_models.specs.Parts.{IsNetwork}
use Rattle.run_laws.specs.Reached.{after_events}
use Rattle.subject_laws.specs.Orders.{arrived_at, begun_at, done_at, numbers_of}
use Rattle.subject_laws.specs.Stations.{IsStationAt, waiting_at, in_service_at}

-- a station in the state after the first n events: who came in began service in that order, and who came last still waits; with one
-- server, who began was done in that order, but for the one in service
pub record IsFirstComeFirstServed (p : NetworkParts) (t : Terms) (i : ℕ) (station : Station ℕ) (n : ℕ) (s : State) : Type 0 where
  pub begun : arrived_at p t i n ≡ begun_at p t i n ++ waiting_at s i
  pub done : station.servers ≡ 1 → begun_at p t i n ≡ done_at p t i n ++ numbers_of (in_service_at s i)

abbrev pub FirstComeFirstServed : Type 0
FirstComeFirstServed =
    (p : NetworkParts) (t : Terms) (i : ℕ) (station : Station ℕ) (n : ℕ) → IsNetwork p → IsStationAt p i station
    → IsFirstComeFirstServed p t i station n (after_events n (network_meaning p) t)
