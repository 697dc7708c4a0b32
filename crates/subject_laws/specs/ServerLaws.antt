-- Servers: how many are busy, and when a job waits.
use Rattle.std.specs.Prelude.{◌≡◌, ℕ, ◌<◌, ◌≤◌, length}
use Rattle.sim_spec.specs.declared.terms.Terms.{Terms}
use Rattle.sim_spec.specs.State.{State}
use Rattle.queue_models.specs.declared.station.Station.{Station}
use Rattle.queue_models.specs.Meaning.{network_meaning}
use Rattle.queue_models.specs.Objects.{NetworkParts}
use Rattle.queue_models.specs.Parts.{IsNetwork}
use Rattle.run_laws.specs.Reached.{Reaches}
use Rattle.subject_laws.specs.Stations.{IsStationAt, busy_at, waiting_at, in_service_at}

-- the servers of a station in a state
pub record AreServing (s : State) (i : ℕ) (station : Station ℕ) : Type 0 where
  pub no_more : busy_at s i ≤ station.servers
  pub under_way : busy_at s i ≡ length (in_service_at s i)
  pub none_idle : 0 < length (waiting_at s i) → busy_at s i ≡ station.servers
  pub line : length (waiting_at s i) ≤ station.line

abbrev pub ServersLaw : Type 0
ServersLaw =
    (p : NetworkParts) (t : Terms) (s : State) (i : ℕ) (station : Station ℕ)
    → IsNetwork p → Reaches (network_meaning p) t s → IsStationAt p i station → AreServing s i station
