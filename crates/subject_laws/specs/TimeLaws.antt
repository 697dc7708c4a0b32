-- What jobs wait and what servers work, exactly.
use Rattle.std.specs.Prelude.{◌≡◌, ℕ, false, ◌+◌, ◌-◌, ◌*◌, ◌≤◌, List, [], ◌∷◌, length, sum, sum_by, All}
use Rattle.event_key.specs.Stamps.{time_part}
use Rattle.model_core.specs.declared.event.Event.{Event}
use Rattle.sim_spec.specs.declared.terms.Terms.{Terms}
use Rattle.sim_spec.specs.State.{State}
use Rattle.sim_stats.specs.declared.sums.Sums.{Sums}
use Rattle.queue_models.specs.declared.station.Station.{Station}
use Rattle.queue_models.specs.Meaning.{network_meaning}
use Rattle.queue_models.specs.Objects.{NetworkParts, object_at}
use Rattle.queue_models.specs.Parts.{IsNetwork}
use Rattle.run_laws.specs.Reached.{after_events}
use Rattle.subject_laws.specs.Draws.{drawn_by}
use Rattle.subject_laws.specs.Stations.{IsStationAt, busy_at, waiting_at, in_service_at}
use Rattle.subject_laws.specs.Times.{arrival_times, begin_times, done_times}
use Rattle.subject_laws.specs.TotalLaws.{totals_at}

-- what each job has waited by a time: from when it came in until its service began, or until then
abbrev pub waits : ℕ → List ℕ → List ℕ → List ℕ
waits now [] begins = []
waits now (came ∷ arrivals) [] = (now - came) ∷ waits now arrivals []
waits now (came ∷ arrivals) (begun ∷ begins) = (begun - came) ∷ waits now arrivals begins

-- waiting jobs times ticks are the times at which services began, and for each job that waits still the time of the last word, less the times
-- at which the jobs came; and they are what the jobs have waited, one by one, in the order in which they came (Little 1961)
pub record WaitsAddUp (p : NetworkParts) (t : Terms) (i n : ℕ) (totals : Sums) (s : State) : Type 0 where
  pub times : totals.waiting_ticks + sum (arrival_times p t i n) ≡ sum (begin_times p t i n) + length (waiting_at s i) * totals.last
  pub jobs : length (arrival_times p t i n) ≡ length (begin_times p t i n) + length (waiting_at s i)
  pub each : totals.waiting_ticks ≡ sum (waits totals.last (arrival_times p t i n) (begin_times p t i n))

-- busy servers times ticks are the times at which jobs were done, and for each in service the time of the last word, less those at which
-- services began; and they are what the services drew, less what is left of those under way
pub record WorkAddsUp (p : NetworkParts) (t : Terms) (i n : ℕ) (totals : Sums) (s : State) : Type 0 where
  pub times : totals.busy_ticks + sum (begin_times p t i n) ≡ sum (done_times p t i n) + busy_at s i * totals.last
  pub under_way : All (λ (e : Event). totals.last ≤ time_part e.key.stamp) (in_service_at s i)
  pub drawn : totals.busy_ticks + sum_by (λ (e : Event). time_part e.key.stamp - totals.last) (in_service_at s i) ≡ sum (drawn_by p t i n)

-- of a quiet station nothing is told, and its totals are those of nothing
abbrev pub LittleLaw : Type 0
LittleLaw =
    (p : NetworkParts) (t : Terms) (i : ℕ) (station : Station ℕ) (n : ℕ) → IsNetwork p → IsStationAt p i station
    → (object_at p.objects i).quiet ≡ false
    → WaitsAddUp p t i n (totals_at p t i n) (after_events n (network_meaning p) t)

abbrev pub UtilisationLaw : Type 0
UtilisationLaw =
    (p : NetworkParts) (t : Terms) (i : ℕ) (station : Station ℕ) (n : ℕ) → IsNetwork p → IsStationAt p i station
    → (object_at p.objects i).quiet ≡ false
    → WorkAddsUp p t i n (totals_at p t i n) (after_events n (network_meaning p) t)
