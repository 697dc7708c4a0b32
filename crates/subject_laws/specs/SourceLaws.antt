-- When a source makes its jobs.
use Rattle.std.specs.Prelude.{◌≡◌, ℕ, ◌+◌, Bool, ◌==◌, List, [], ◌∷◌, ◌++◌, map, filter}
use Rattle.event_key.specs.Stamps.{time_part}
use Rattle.model_core.specs.declared.event.Event.{Event}
use Rattle.sim_spec.specs.declared.terms.Terms.{Terms}
use Rattle.sim_spec.specs.State.{State}
use Rattle.queue_models.specs.declared.kind.KindOver.TheVariants.{Source}
use Rattle.queue_models.specs.declared.source.Source.{Source as SourceOver}
use Rattle.queue_models.specs.Meaning.{plain_meaning, network_meaning}
use Rattle.queue_models.specs.Objects.{NetworkParts, object_at}
use Rattle.queue_models.specs.Parts.{IsNetwork}
use Rattle.run_laws.specs.Reached.{after_events, gathered}
use Rattle.subject_laws.specs.Draws.{drawn_by}
use Rattle.subject_laws.specs.Orders.{jobs_told}
use Rattle.subject_laws.specs.Times.{at_time}

abbrev pub IsSourceAt : NetworkParts → ℕ → SourceOver ℕ → Type 0
IsSourceAt p i source = (object_at p.objects i).kind ≡ Source source

-- the word `make` tells of a job that is made
abbrev pub is_made : ℕ → Bool
is_made word = word == 2

-- when a source made its jobs within the first n events, in order
abbrev pub make_times : NetworkParts → Terms → ℕ → ℕ → List ℕ
make_times p t i n = gathered (at_time (jobs_told is_made i)) n (plain_meaning p) t

-- when it will make its next job, where one is left
abbrev pub next_make_at : State → ℕ → List ℕ
next_make_at s i = map (λ (e : Event). time_part e.key.stamp) (filter (λ (e : Event). e.key.dest == i) s.pending)

-- a time, and then one after each of these gaps
abbrev pub epochs : ℕ → List ℕ → List ℕ
epochs time [] = time ∷ []
epochs time (gap ∷ gaps) = time ∷ epochs (time + gap) gaps

-- the times at which a source made its jobs, and the one at which it will make its next, begin with `first` and lie its draws apart
abbrev pub SourcesLaw : Type 0
SourcesLaw =
    (p : NetworkParts) (t : Terms) (i n : ℕ) (source : SourceOver ℕ) → IsNetwork p → IsSourceAt p i source
    → make_times p t i n ++ next_make_at (after_events n (network_meaning p) t) i ≡ epochs source.first (drawn_by p t i n)
