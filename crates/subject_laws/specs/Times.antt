-- When jobs come to a station, begin their service there, and are done: ticks, one for each job, in the order of the run.
use Rattle.std.specs.Prelude.{ℕ, List, [], map}
use Rattle.event_key.specs.Stamps.{time_part}
use Rattle.sim_spec.specs.declared.terms.Terms.{Terms}
use Rattle.sim_spec.specs.State.{State}
use Rattle.sim_spec.specs.Run.{Next, stops, does}
use Rattle.queue_models.specs.Meaning.{plain_meaning}
use Rattle.queue_models.specs.Objects.{NetworkParts}
use Rattle.run_laws.specs.Reached.{gathered}
use Rattle.subject_laws.specs.Orders.{jobs_told, is_coming, is_done, begins_at}

-- the time of the next event, once for each job of these
abbrev pub at_time : (State → Next → List ℕ) → State → Next → List ℕ
at_time jobs s (stops stop) = []
at_time jobs s (does told after) = map (λ (job : ℕ). time_part told.0.stamp) (jobs s (does told after))

-- when the jobs came in at a station within the first n events
abbrev pub arrival_times : NetworkParts → Terms → ℕ → ℕ → List ℕ
arrival_times p t i n = gathered (at_time (jobs_told is_coming i)) n (plain_meaning p) t

-- when their service began there
abbrev pub begin_times : NetworkParts → Terms → ℕ → ℕ → List ℕ
begin_times p t i n = gathered (at_time (begins_at (plain_meaning p) i)) n (plain_meaning p) t

-- when they were done there
abbrev pub done_times : NetworkParts → Terms → ℕ → ℕ → List ℕ
done_times p t i n = gathered (at_time (jobs_told is_done i)) n (plain_meaning p) t
