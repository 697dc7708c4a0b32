-- Who is where at the stations of a network.
use Rattle.std.specs.Prelude.{◌≡◌, ℕ, Bool, ◌==◌, ◌&&◌, List, filter}
use Rattle.delta_exchange.specs.Changes.{CellData, line_of}
use Rattle.model_core.specs.declared.event.Event.{Event}
use Rattle.sim_spec.specs.State.{State, object_at as state_at}
use Rattle.queue_models.specs.declared.kind.KindOver.TheVariants.{Station}
use Rattle.queue_models.specs.declared.station.Station.{Station as StationOver}
use Rattle.queue_models.specs.Objects.{NetworkParts, object_at}
use Rattle.queue_models.specs.Stations.{busy_servers}

-- an object of the network is this station
abbrev pub IsStationAt : NetworkParts → ℕ → StationOver ℕ → Type 0
IsStationAt p i station = (object_at p.objects i).kind ≡ Station station

abbrev pub cells_at : State → ℕ → CellData
cells_at s i = (state_at s.objects i).cells

-- how many servers of a station are busy
abbrev pub busy_at : State → ℕ → ℕ
busy_at s i = busy_servers (cells_at s i)

-- the numbers of the jobs that wait at a station, the one that waits longest first
abbrev pub waiting_at : State → ℕ → List ℕ
waiting_at s i = line_of (cells_at s i) 0

-- a pending event of kind 2 is the end of a service
abbrev pub ends_service_at : ℕ → Event → Bool
ends_service_at i e = e.kind == 2 && e.key.dest == i

-- the services under way at a station, by their ends
abbrev pub in_service_at : State → ℕ → List Event
in_service_at s i = filter (ends_service_at i) s.pending
