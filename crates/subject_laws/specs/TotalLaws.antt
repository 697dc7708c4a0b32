-- The totals of a station account for its jobs and for the time of its servers.
use Rattle.std.specs.Prelude.{◌≡◌, ℕ, false, ◌+◌, ◌*◌, ◌≤◌, length}
use Rattle.sim_spec.specs.declared.terms.Terms.{Terms}
use Rattle.sim_spec.specs.State.{State}
use Rattle.sim_stats.specs.declared.sums.Sums.{Sums}
use Rattle.sim_stats.specs.Sums.{sums_of}
use Rattle.sim_stats.specs.Words.{words_told}
use Rattle.queue_models.specs.declared.station.Station.{Station}
use Rattle.queue_models.specs.Meaning.{network_meaning}
use Rattle.queue_models.specs.Objects.{NetworkParts, object_at}
use Rattle.queue_models.specs.Parts.{IsNetwork}
use Rattle.run_laws.specs.Reached.{after_events, first_records}
use Rattle.subject_laws.specs.Stations.{IsStationAt, busy_at, waiting_at, in_service_at}

-- the totals of an object over what is told of it within the first n events
abbrev pub totals_at : NetworkParts → Terms → ℕ → ℕ → Sums
totals_at p t i n = sums_of (words_told i (first_records n (network_meaning p) t))

-- totals beside the state of a station: each job that came was served or lost, waits, or is in service; what is told keeps
-- count of the busy servers and of the waiting jobs; and busy servers times ticks are at most those of all servers up to
-- the last time that something was told
pub record IsAccountedFor (totals : Sums) (s : State) (i : ℕ) (station : Station ℕ) : Type 0 where
  pub jobs : totals.arrivals ≡ totals.served + totals.lost + length (waiting_at s i) + length (in_service_at s i)
  pub busy : totals.occupancy.busy ≡ busy_at s i
  pub waiting : totals.occupancy.waiting ≡ length (waiting_at s i)
  pub busy_ticks : totals.busy_ticks ≤ station.servers * totals.last

-- of a quiet station nothing is told, and its totals are those of nothing
abbrev pub EachStationIsAccountedFor : Type 0
EachStationIsAccountedFor =
    (p : NetworkParts) (t : Terms) (i : ℕ) (station : Station ℕ) (n : ℕ) → IsNetwork p → IsStationAt p i station → (object_at p.objects i).quiet ≡ false
    → IsAccountedFor (totals_at p t i n) (after_events n (network_meaning p) t) i station
