-- What an event of a network leaves, object by object.
use Rattle.std.proofs.Common.{◌≡◌, ◌≢◌, ℕ, ◌+◌, ◌<◌, length, ap, ◌∙◌, arith, get_or-set_same, get_or-set_other}
use Rattle.std.specs.Prelude.{IsTrue, sum_by}
use Rattle.std.proofs.lemmas.List.Sums.{sum_by-cons}
use Rattle.event_key.specs.declared.key.Key.{Key}
use Rattle.delta_exchange.specs.Changes.{cells_after_all}
use Rattle.model_core.specs.declared.event.Event.{Event}
use Rattle.model_core.specs.declared.note.Note.{Note}
use Rattle.sim_spec.specs.declared.terms.Terms.{Terms}
use Rattle.sim_spec.specs.Firing.{ObjectState}
use Rattle.sim_spec.specs.State.{State, Lawful, no_object}
use Rattle.sim_spec.specs.Run.{does, next}
use Rattle.sim_spec.proofs.RunLemmas.{first_sound}
use Rattle.queue_models.specs.Kinds.{is_lawful}
use Rattle.queue_models.specs.Meaning.{plain_meaning, network_meaning, site_of}
use Rattle.queue_models.specs.ModelLaws.{object_fine, plain_laws}
use Rattle.queue_models.specs.Objects.{NetworkParts, object_at}
use Rattle.queue_models.specs.Parts.{IsNetwork}
use Rattle.run_laws.specs.Reached.{Reaches}
use Rattle.run_laws.proofs.EnqueueSums.{sum_by-enqueue_all}
use Rattle.run_laws.proofs.ReachedLemmas.{reached-lawful}
use Rattle.run_laws.proofs.Steps.{IsStep, is_step, first_firing}
use Rattle.subject_laws.specs.Stations.{cells_at}
use Rattle.subject_laws.proofs.QueueLemmas.Cases.{EventDoes, event_does}

-- an event of a network, at a lawful state
pub record IsNetworkStep (p : NetworkParts) (t : Terms) (s : State) (told : Key × Note) (after : State) : Type 0 where
  pub step : IsStep (plain_meaning p) t s told after
  pub lawful : Lawful (plain_meaning p) t s
  pub exists : step.event.key.dest < length p.objects
  pub long : length s.objects ≡ length p.objects
  pub cells : IsTrue (is_lawful (object_at p.objects step.event.key.dest).kind (cells_at s step.event.key.dest))
  pub does_so : EventDoes p.objects (site_of p step.event.key.dest) (cells_at s step.event.key.dest) step.event (object_at p.objects step.event.key.dest).kind step.effect

pub reached_lawful : (p : NetworkParts) (t : Terms) (s : State) → IsNetwork p → Reaches (plain_meaning p) t s → Lawful (plain_meaning p) t s
reached_lawful p t s fine reached = reached-lawful (plain_meaning p) t s (plain_laws p fine) reached

pub network_step : (p : NetworkParts) (t : Terms) (s : State) (told : Key × Note) (after : State) → IsNetwork p → Reaches (plain_meaning p) t s
    → next (plain_meaning p) t s ≡ does told after → IsNetworkStep p t s told after
unfolding plain_meaning network_meaning
network_step p t s told after fine reached is_next =
    let step : IsStep (plain_meaning p) t s told after = is_step (plain_meaning p) t s told after is_next in
    let lawful : Lawful (plain_meaning p) t s = reached_lawful p t s fine reached in
    let exists : step.event.key.dest < length p.objects = (first_sound (plain_meaning p) t s step.event step.rest lawful step.pending).dest in
    record {
      step = step;
      lawful = lawful;
      exists = exists;
      long = lawful.objects;
      cells = lawful.cells step.event.key.dest exists;
      does_so = event_does p.objects (site_of p step.event.key.dest) (object_at p.objects step.event.key.dest).kind (cells_at s step.event.key.dest) step.event step.effect
          (object_fine p fine step.event.key.dest exists).kind (lawful.cells step.event.key.dest exists) step.outcome;
    }

-- the object of the event has other cells, and each other object keeps its own
pub cells_here : (p : NetworkParts) (t : Terms) (s : State) (told : Key × Note) (after : State) (n : IsNetworkStep p t s told after)
    → cells_at after n.step.event.key.dest ≡ cells_after_all n.step.effect.changes (cells_at s n.step.event.key.dest)
cells_here p t s told after n =
    let i : ℕ = n.step.event.key.dest in
    let inside : i < length s.objects = omega (arith, n.exists, n.long) in
    ap (λ s. cells_at s i) n.step.leaves
    ∙ ap (λ (o : ObjectState). o.cells) (get_or-set_same s.objects i (first_firing s n.step.event n.step.effect).state no_object inside)

pub cells_elsewhere : (p : NetworkParts) (t : Terms) (s : State) (told : Key × Note) (after : State) (n : IsNetworkStep p t s told after) (i : ℕ)
    → i ≢ n.step.event.key.dest → cells_at after i ≡ cells_at s i
cells_elsewhere p t s told after n i apart =
    ap (λ s. cells_at s i) n.step.leaves
    ∙ ap (λ (o : ObjectState). o.cells) (get_or-set_other s.objects n.step.event.key.dest i (first_firing s n.step.event n.step.effect).state no_object apart)

-- a sum over what is pending: the event is taken off, and what it sends comes in
pub sum_before : (p : NetworkParts) (t : Terms) (s : State) (told : Key × Note) (after : State) (n : IsNetworkStep p t s told after) (f : Event → ℕ)
    → sum_by f s.pending ≡ f n.step.event + sum_by f n.step.rest
sum_before p t s told after n f = ap (sum_by f) n.step.pending ∙ sum_by-cons f n.step.event n.step.rest

pub sum_after : (p : NetworkParts) (t : Terms) (s : State) (told : Key × Note) (after : State) (n : IsNetworkStep p t s told after) (f : Event → ℕ)
    → sum_by f after.pending ≡ sum_by f (first_firing s n.step.event n.step.effect).events + sum_by f n.step.rest
sum_after p t s told after n f =
    ap (λ (s : State). sum_by f s.pending) n.step.leaves ∙ sum_by-enqueue_all f (first_firing s n.step.event n.step.effect).events n.step.rest
