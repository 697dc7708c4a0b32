-- In which order jobs come to a station, begin their service there, and are done. An event tells of these by its note, so the
-- run is that of the plain meaning: what would be told if no object were quiet.
use Rattle.std.specs.Prelude.{ℕ, Bool, ◌==◌, ◌||◌, if◌then◌else◌, List, [], map, filter}
use Rattle.model_core.specs.declared.event.Event.{Event}
use Rattle.model_core.specs.declared.note.Part.{Part}
use Rattle.model_core.specs.Meaning.{Meaning}
use Rattle.sim_spec.specs.declared.terms.Terms.{Terms}
use Rattle.sim_spec.specs.State.{State}
use Rattle.sim_spec.specs.Run.{Next, stops, does}
use Rattle.queue_models.specs.Meaning.{plain_meaning}
use Rattle.queue_models.specs.Objects.{NetworkParts}
use Rattle.run_laws.specs.Reached.{gathered}
use Rattle.run_laws.specs.Sent.{sent_next}
use Rattle.subject_laws.specs.Stations.{ends_service_at}

-- the jobs of which an event tells by such a word at an object
abbrev pub jobs_told : (ℕ → Bool) → ℕ → State → Next → List ℕ
jobs_told is_word i s (stops stop) = []
jobs_told is_word i s (does told after) =
    if told.0.dest == i then map (λ (part : Part). part.a) (filter (λ (part : Part). is_word part.word) told.1) else []

-- the words `take` and `wait` tell of a job that comes in, and `done` of one that is done
abbrev pub is_coming : ℕ → Bool
is_coming word = word == 3 || word == 4

abbrev pub is_done : ℕ → Bool
is_done word = word == 6

-- the numbers of the jobs that came in at a station within the first n events, in order; one that is turned away doesn't
abbrev pub arrived_at : NetworkParts → Terms → ℕ → ℕ → List ℕ
arrived_at p t i n = gathered (jobs_told is_coming i) n (plain_meaning p) t

-- those that were done there
abbrev pub done_at : NetworkParts → Terms → ℕ → ℕ → List ℕ
done_at p t i n = gathered (jobs_told is_done i) n (plain_meaning p) t

abbrev pub numbers_of : List Event → List ℕ
numbers_of es = map (λ (e : Event). e.a) es

-- the jobs whose service begins at a station with the next event: it sends the ends of their services
abbrev pub begins_at : Meaning → ℕ → State → Next → List ℕ
begins_at m i s (stops stop) = []
begins_at m i s (does told after) = numbers_of (filter (ends_service_at i) (sent_next m s))

-- those whose service began there
abbrev pub begun_at : NetworkParts → Terms → ℕ → ℕ → List ℕ
begun_at p t i n = gathered (begins_at (plain_meaning p) i) n (plain_meaning p) t
