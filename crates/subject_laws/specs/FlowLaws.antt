-- What comes to an object is what was sent to it, and the listed jobs that begin there.
use Rattle.std.specs.Prelude.{◌≡◌, ℕ, ◌+◌, ◌<◌, Bool, false, not, ◌==◌, ◌&&◌, length, count_by}
use Rattle.std.specs.List.{range_with_len}
use Rattle.model_core.specs.declared.event.Event.{Event}
use Rattle.sim_spec.specs.declared.terms.Terms.{Terms}
use Rattle.sim_spec.specs.State.{State}
use Rattle.sim_stats.specs.declared.sums.Sums.{Sums}
use Rattle.queue_models.specs.Kinds.{is_source, is_station}
use Rattle.queue_models.specs.Meaning.{plain_meaning, network_meaning, job_start}
use Rattle.queue_models.specs.Objects.{NetworkParts, object_at}
use Rattle.queue_models.specs.Parts.{IsNetwork}
use Rattle.run_laws.specs.Reached.{after_events}
use Rattle.run_laws.specs.Sent.{all_sent}
use Rattle.subject_laws.specs.TotalLaws.{totals_at}

-- a job comes to an object by this event: at a station it isn't the end of a service
abbrev pub comes_to : NetworkParts → ℕ → Event → Bool
comes_to p i e = e.key.dest == i && not (is_station (object_at p.objects i).kind && e.kind == 2)

-- how many jobs of the list begin at an object
abbrev pub listed_at : NetworkParts → ℕ → ℕ
listed_at p i = count_by (λ k. (job_start p k).dest == i) (range_with_len 0 (length p.jobs))

-- the arrivals that are told, and those on their way, are the jobs that were sent there, and those of the list
abbrev pub ArrivalsAddUp : NetworkParts → Terms → ℕ → ℕ → Sums → State → Type 0
ArrivalsAddUp p t i n totals s =
    totals.arrivals + count_by (comes_to p i) s.pending ≡ listed_at p i + count_by (comes_to p i) (all_sent n (plain_meaning p) t)

-- of a quiet object nothing is told, and to a source no job comes
abbrev pub FlowLaw : Type 0
FlowLaw =
    (p : NetworkParts) (t : Terms) (i n : ℕ) → IsNetwork p → i < length p.objects
    → is_source (object_at p.objects i).kind ≡ false → (object_at p.objects i).quiet ≡ false
    → ArrivalsAddUp p t i n (totals_at p t i n) (after_events n (network_meaning p) t)
