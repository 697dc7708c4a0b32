-- When each job was born, and what is kept of it where the job stands.
use Rattle.std.specs.Prelude.{◌≡◌, ℕ, ◌<◌, true, ◌==◌, if◌then◌else◌, List, [], ◌∷◌, ◌++◌, length, map, slice_index, Contains}
use Rattle.std.specs.List.{range_with_len}
use Rattle.event_key.specs.Stamps.{time_part}
use Rattle.delta_exchange.specs.Changes.{line_of}
use Rattle.model_core.specs.declared.event.Event.{Event}
use Rattle.sim_spec.specs.declared.terms.Terms.{Terms}
use Rattle.sim_spec.specs.State.{State}
use Rattle.sim_spec.specs.Run.{Next, stops, does}
use Rattle.queue_models.specs.Meaning.{plain_meaning, job_start}
use Rattle.queue_models.specs.Objects.{NetworkParts}
use Rattle.run_laws.specs.Reached.{gathered}
use Rattle.run_laws.specs.Sent.{sent_next}
use Rattle.subject_laws.specs.Jobs.{Job, is_of_job}
use Rattle.subject_laws.specs.Places.{Place, at_event, in_line, has_left, was_lost, word_told}
use Rattle.subject_laws.specs.Stations.{cells_at}

-- a job that a source makes is born now
abbrev pub newly_born : ℕ → ℕ → List Event → List ℕ
newly_born word time [] = []
newly_born word time (e ∷ rest) = if word == 2 then time ∷ [] else []

abbrev pub born_next : NetworkParts → State → Next → List ℕ
born_next p s (stops stop) = []
born_next p s (does told after) = newly_born (word_told told.1) (time_part told.0.stamp) (sent_next (plain_meaning p) s)

-- when each job of `whereabouts` was born, in the same order: at its time on the list, or when its source made it
abbrev pub births : NetworkParts → Terms → ℕ → List ℕ
births p t n = map (λ i. (job_start p i).time) (range_with_len 0 (length p.jobs)) ++ gathered (born_next p) n (plain_meaning p) t

-- the births of the jobs that wait at a station, that of the one that waits longest first
abbrev pub births_waiting_at : State → ℕ → List ℕ
births_waiting_at s i = line_of (cells_at s i) 1

-- this birth is kept where a job stands: as the second value of its pending event, or in the line of births
abbrev pub IsKeptAt : NetworkParts → State → ℕ → Place → Type 0
IsKeptAt p s birth (at_event k) = (e : Event) × Contains s.pending e × (is_of_job p e ≡ true) × (e.key ≡ k) × (e.b ≡ birth)
IsKeptAt p s birth (in_line i k) = (k < length (births_waiting_at s i)) × (slice_index (births_waiting_at s i) k ≡ birth)
IsKeptAt p s birth has_left = Unit {0}
IsKeptAt p s birth was_lost = Unit {0}

-- of as many jobs as births
abbrev pub AreKept : NetworkParts → State → List (Job × Place) → List ℕ → Type 0
AreKept p s [] [] = Unit {0}
AreKept p s (job ∷ jobs) (birth ∷ more) = IsKeptAt p s birth job.1 × AreKept p s jobs more
AreKept p s [] (birth ∷ more) = ⊥
AreKept p s (job ∷ jobs) [] = ⊥
