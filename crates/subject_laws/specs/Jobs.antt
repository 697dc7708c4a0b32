-- The jobs of a network by name, followed from event to event, and the places of a state. An event tells of its job by its
-- note, so the run is that of the plain meaning: what would be told if no object were quiet.
use Rattle.std.specs.Prelude.{ℕ, zero, suc, ◌+◌, Bool, true, false, not, ◌==◌, if◌then◌else◌, List, [], ◌∷◌, ◌++◌, length, map, filter, flat_map}
use Rattle.std.specs.List.{range_with_len}
use Rattle.model_core.specs.declared.event.Event.{Event}
use Rattle.sim_spec.specs.declared.terms.Terms.{Terms}
use Rattle.sim_spec.specs.State.{State, start_event}
use Rattle.sim_spec.specs.Run.{Next, stops, does, next}
use Rattle.queue_models.specs.Meaning.{plain_meaning}
use Rattle.queue_models.specs.Kinds.{is_source}
use Rattle.queue_models.specs.Objects.{NetworkParts, object_at, source_numbers}
use Rattle.run_laws.specs.Reached.{after_events}
use Rattle.run_laws.specs.Sent.{sent_next}
use Rattle.subject_laws.specs.Stations.{waiting_at}
use Rattle.subject_laws.specs.Places.{Place, at_event, in_line, has_left, was_lost, word_told, job_told, place_after}

-- a job comes from the list of jobs, or was made by a source
pub data Origin : Type 0 where
  listed : Origin
  made_by : ℕ → Origin

-- its origin and its number there, from 1 on, are its name
pub record Job : Type 0 where
  pub origin : Origin
  pub number : ℕ

-- at the start each job of the list stands at its arrival: these events come behind those of the sources
abbrev pub first_places : NetworkParts → List (Job × Place)
first_places p =
    map (λ i. (record { origin = listed; number = i + 1 }, at_event (start_event (plain_meaning p) (length (source_numbers p.objects) + i)).key))
    (range_with_len 0 (length p.jobs))

-- a job that a source makes stands at the first event that is sent then
abbrev pub newly_made : ℕ → ℕ → ℕ → List Event → List (Job × Place)
newly_made word source number [] = []
newly_made word source number (e ∷ rest) = if word == 2 then (record { origin = made_by source; number = number }, at_event e.key) ∷ [] else []

-- the jobs with their places after the next event of a state
abbrev pub places_after : NetworkParts → State → List (Job × Place) → Next → List (Job × Place)
places_after p s jobs (stops stop) = jobs
places_after p s jobs (does told after) =
    let sent = sent_next (plain_meaning p) s in
    let word = word_told told.1 in
    map (λ job. (job.0, place_after told.0 word (length (waiting_at s told.0.dest)) sent job.1)) jobs
    ++ newly_made word told.0.dest (job_told told.1) sent

-- every job that was put in or made within the first n events, and where it stands after them
unfoldable pub whereabouts : NetworkParts → Terms → ℕ → List (Job × Place)
whereabouts p t zero = first_places p
whereabouts p t (suc n) =
    places_after p (after_events n (plain_meaning p) t) (whereabouts p t n) (next (plain_meaning p) t (after_events n (plain_meaning p) t))

abbrev pub is_in_system : Place → Bool
is_in_system (at_event k) = true
is_in_system (in_line i k) = true
is_in_system has_left = false
is_in_system was_lost = false

-- the places that jobs hold in the system, each with the job's number
abbrev pub held : List (Job × Place) → List (ℕ × Place)
held jobs = filter (λ at. is_in_system at.1) (map (λ (job : Job × Place). (job.0.number, job.1)) jobs)

-- each pending event is a job's, but for those at sources
abbrev pub is_of_job : NetworkParts → Event → Bool
is_of_job p e = not (is_source (object_at p.objects e.key.dest).kind)

-- the places of a line, from the one behind k others on
abbrev pub places_in_line : ℕ → ℕ → List ℕ → List (ℕ × Place)
places_in_line i k [] = []
places_in_line i k (number ∷ rest) = (number, in_line i k) ∷ places_in_line i (k + 1) rest

-- the places of a state where jobs stand, each with the number of the job: the pending events of jobs, and all lines
unfoldable pub in_the_system : NetworkParts → State → List (ℕ × Place)
in_the_system p s =
    map (λ (e : Event). (e.a, at_event e.key)) (filter (is_of_job p) s.pending)
    ++ flat_map (λ i. places_in_line i 0 (waiting_at s i)) (range_with_len 0 (length p.objects))
