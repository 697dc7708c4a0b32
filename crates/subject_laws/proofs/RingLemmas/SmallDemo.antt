-- The demo of two stations, computed with its random words. At each of them a job begins; the first station and the delay
-- behind it take one tick, the second station and its delay one or two.
use Rattle.std.proofs.Common.{◌≡◌, ℕ, refl, List, [], ◌∷◌, map}
use Rattle.event_key.specs.Stamps.{time_part}
use Rattle.queue_models.specs.Meaning.{network_meaning}
use Rattle.queue_models.specs.Objects.{object_at}
use Rattle.queue_models.specs.Rings.{ring_parts, ring_terms}
use Rattle.run_laws.specs.Reached.{after_events, first_records}
use Rattle.subject_laws.proofs.Computing.{network_run}
use Rattle.subject_laws.proofs.QueueLemmas.SmallShop.{key_at}
use Rattle.subject_laws.specs.DrawLaws.{first_draws}
use Rattle.subject_laws.specs.Draws.{drawn_by, draw_place}
use Rattle.subject_laws.specs.Jobs.{Job, listed, whereabouts, in_the_system}
use Rattle.subject_laws.specs.Places.{at_event, in_line, word_told, job_told}

-- the first nine events: when, at which object, by which word, and of which job
demo_seen : map {B = ℕ × ℕ × ℕ × ℕ} (λ told. (time_part told.0.stamp, told.0.dest, word_told told.1, job_told told.1)) (first_records 9 (network_meaning (ring_parts 2)) ring_terms) ≡
    (0, 0, 3, 1) ∷ (0, 2, 3, 2) ∷ (1, 0, 6, 1) ∷ (1, 1, 7, 1) ∷ (2, 2, 4, 1) ∷ (2, 2, 6, 2) ∷ (2, 3, 7, 2) ∷ (3, 2, 6, 1) ∷ (3, 3, 7, 1) ∷ []
unfolding network_run
demo_seen = refl

job : ℕ → Job
job number = record { origin = listed; number = number }

-- after five events the first job waits at the second station, where the other one is served
in_the_line : whereabouts (ring_parts 2) ring_terms 5 ≡ (job 1, in_line 2 0) ∷ (job 2, at_event (key_at 2 0 2 2 0)) ∷ []
unfolding job network_run
in_the_line = refl

-- after nine neither is lost: the first is on its way behind the other to the first station
none_is_lost : whereabouts (ring_parts 2) ring_terms 9 ≡ (job 1, at_event (key_at 5 0 0 3 1)) ∷ (job 2, at_event (key_at 4 0 0 3 0)) ∷ []
unfolding job network_run
none_is_lost = refl

both_go_on : in_the_system (ring_parts 2) (after_events 9 (network_meaning (ring_parts 2)) ring_terms) ≡
    (2, at_event (key_at 4 0 0 3 0)) ∷ (1, at_event (key_at 5 0 0 3 1)) ∷ []
unfolding network_run
both_go_on = refl

-- the second station drew 2 and 1: the first two of its law from its own words
draws_seen : ◌≡◌ {A = List ℕ × List ℕ}
    (drawn_by (ring_parts 2) ring_terms 2 9, first_draws 2 2 (object_at (ring_parts 2).objects 2).kind 2)
    (2 ∷ 1 ∷ [], 2 ∷ 1 ∷ [])
unfolding draw_place network_run
draws_seen = refl
