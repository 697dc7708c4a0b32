-- Times, computed: those of the counter of the small shop after eleven events. Its totals are those of `SmallTotals`: busy 10,
-- waiting 13, and 11 is the last word's time. So 13 + (1 + 3 + 5 + 7) is (1 + 6 + 11) + 1 * 11, and 10 + (16 - 11) is 5 + 5 + 5.
use Rattle.std.proofs.lemmas.List.Elements.{All-nil, All-cons}
use Rattle.std.proofs.Common.{lit≤, ◌≤◌, ◌≡◌, ℕ, refl, List, [], ◌∷◌, map}
use Rattle.event_key.specs.Stamps.{time_part}
use Rattle.model_core.specs.declared.event.Event.{Event}
use Rattle.queue_models.specs.Meaning.{network_meaning}
use Rattle.run_laws.specs.Reached.{after_events}
use Rattle.subject_laws.specs.Draws.{drawn_by}
use Rattle.subject_laws.specs.SourceLaws.{make_times, next_make_at, epochs}
use Rattle.subject_laws.specs.Stations.{in_service_at}
use Rattle.subject_laws.specs.TimeLaws.{waits, WaitsAddUp, WorkAddsUp}
use Rattle.subject_laws.specs.TotalLaws.{totals_at}
use Rattle.subject_laws.specs.Times.{arrival_times, begin_times, done_times}
use Rattle.subject_laws.proofs.QueueLemmas.SmallShop.{shop, to_fifty}
use Rattle.subject_laws.proofs.Computing.{network_run}

-- when four jobs came, three services began, and two ended; when the one under way will end; and what was drawn
times_seen : ◌≡◌ {A = List ℕ × List ℕ × List ℕ × List ℕ × List ℕ} (
  arrival_times shop to_fifty 1 11,
  begin_times shop to_fifty 1 11,
  done_times shop to_fifty 1 11,
  map (λ (e : Event). time_part e.key.stamp) (in_service_at (after_events 11 (network_meaning shop) to_fifty) 1),
  drawn_by shop to_fifty 1 11,
)
    (1 ∷ 3 ∷ 5 ∷ 7 ∷ [], 1 ∷ 6 ∷ 11 ∷ [], 6 ∷ 11 ∷ [], 16 ∷ [], 5 ∷ 5 ∷ 5 ∷ [])
unfolding shop to_fifty network_run
times_seen = refl

-- so the sums of the laws come out at this state
waits_add_up : WaitsAddUp shop to_fifty 1 11 (totals_at shop to_fifty 1 11) (after_events 11 (network_meaning shop) to_fifty)
unfolding shop to_fifty network_run
waits_add_up = record { times = refl; jobs = refl; each = refl }

work_adds_up : WorkAddsUp shop to_fifty 1 11 (totals_at shop to_fifty 1 11) (after_events 11 (network_meaning shop) to_fifty)
unfolding shop to_fifty network_run
work_adds_up = record { times = refl; under_way = All-cons (λ (e : Event). 11 ≤ time_part e.key.stamp) _ [] (lit≤ tt) (All-nil (λ (e : Event). 11 ≤ time_part e.key.stamp)); drawn = refl }

-- the four jobs have waited 0, 3, 6 and 4 ticks by then, 13 together
waits_seen : waits 11 (1 ∷ 3 ∷ 5 ∷ 7 ∷ []) (1 ∷ 6 ∷ 11 ∷ []) ≡ 0 ∷ 3 ∷ 6 ∷ 4 ∷ []
waits_seen = refl

-- after four events the source has made jobs at 1 and 3, and will make the next at 5: two ticks apart, as it drew
makes_seen : ◌≡◌ {A = List ℕ × List ℕ × List ℕ × List ℕ} (
  make_times shop to_fifty 0 4,
  next_make_at (after_events 4 (network_meaning shop) to_fifty) 0,
  drawn_by shop to_fifty 0 4,
  epochs 1 (2 ∷ 2 ∷ []),
)
    (1 ∷ 3 ∷ [], 5 ∷ [], 2 ∷ 2 ∷ [], 1 ∷ 3 ∷ 5 ∷ [])
unfolding shop to_fifty network_run
makes_seen = refl
