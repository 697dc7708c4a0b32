-- No job is lost or doubled.
use Rattle.std.specs.Prelude.{◌≡◌, ℕ, ◌+◌, Bool, true, false, ◌==◌, List, length, map, filter, count_by, IsPermutation}
use Rattle.std.specs.List.{range_with_len}
use Rattle.sim_spec.specs.declared.terms.Terms.{Terms}
use Rattle.sim_spec.specs.State.{State}
use Rattle.queue_models.specs.Kinds.{is_source}
use Rattle.queue_models.specs.Meaning.{network_meaning}
use Rattle.queue_models.specs.Objects.{NetworkParts, object_at}
use Rattle.queue_models.specs.Parts.{IsNetwork}
use Rattle.queue_models.specs.Sources.{made_of}
use Rattle.run_laws.specs.Reached.{after_events}
use Rattle.subject_laws.specs.Stations.{cells_at}
use Rattle.subject_laws.specs.Places.{Place, at_event, in_line, has_left, was_lost}
use Rattle.subject_laws.specs.Jobs.{Origin, listed, made_by, Job, whereabouts, held, in_the_system}

abbrev pub is_from : Origin → Origin → Bool
is_from listed listed = true
is_from listed (made_by i) = false
is_from (made_by i) listed = false
is_from (made_by i) (made_by j) = i == j

-- the numbers of the jobs of one origin
abbrev pub numbers_from : Origin → List (Job × Place) → List ℕ
numbers_from origin jobs = map (λ (job : Job × Place). job.0.number) (filter (λ (job : Job × Place). is_from origin job.0.origin) jobs)

abbrev pub is_left : Place → Bool
is_left (at_event k) = false
is_left (in_line i k) = false
is_left has_left = true
is_left was_lost = false

abbrev pub is_lost : Place → Bool
is_lost (at_event k) = false
is_lost (in_line i k) = false
is_lost has_left = false
is_lost was_lost = true

-- the jobs after n events, in the state then: each has its name alone; those in the system hold its places, one each; and all are those that
-- have left, those that were lost, and those in the system
pub record AreAllThere (p : NetworkParts) (t : Terms) (n : ℕ) (s : State) : Type 0 where
  pub put_in : numbers_from listed (whereabouts p t n) ≡ range_with_len 1 (length p.jobs)
  pub made : (i : ℕ) → is_source (object_at p.objects i).kind ≡ true
      → numbers_from (made_by i) (whereabouts p t n) ≡ range_with_len 1 (made_of (cells_at s i))
  pub places : IsPermutation (held (whereabouts p t n)) (in_the_system p s)
  pub count : length (whereabouts p t n)
      ≡ count_by (λ (job : Job × Place). is_left job.1) (whereabouts p t n) + count_by (λ (job : Job × Place). is_lost job.1) (whereabouts p t n)
      + length (in_the_system p s)

abbrev pub NoneLostOrDoubled : Type 0
NoneLostOrDoubled = (p : NetworkParts) (t : Terms) (n : ℕ) → IsNetwork p → AreAllThere p t n (after_events n (network_meaning p) t)
