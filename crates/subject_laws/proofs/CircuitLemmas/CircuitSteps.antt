-- What an event of a circuit leaves, gate by gate.
use Rattle.std.proofs.Common.{◌≡◌, ◌≢◌, ℕ, ◌<◌, List, length, ap, sym, ◌∙◌, subst, arith, get_or-set_same, get_or-set_other}
use Rattle.delta_exchange.specs.Changes.{cells_after_all}
use Rattle.event_key.specs.declared.key.Key.{Key}
use Rattle.model_core.specs.declared.effect.Effect.{Effect}
use Rattle.model_core.specs.declared.note.Note.{Note}
use Rattle.key_order.specs.Pending.{enqueue_all}
use Rattle.sim_spec.specs.declared.terms.Terms.{Terms}
use Rattle.sim_spec.specs.Firing.{ObjectState, emissions}
use Rattle.sim_spec.specs.State.{State, Lawful, object_at, no_object}
use Rattle.sim_spec.specs.Run.{does, next}
use Rattle.sim_spec.proofs.LawfulLemmas.{next-lawful}
use Rattle.sim_spec.proofs.RunLemmas.{first_sound}
use Rattle.circuit_model.specs.declared.gate.LogicGate.{LogicGate}
use Rattle.circuit_model.specs.Events.{levels_of, output_after, gate_effect}
use Rattle.circuit_model.specs.Gates.{gate_at}
use Rattle.circuit_model.specs.LawfulCells.{AreGateCells, AreGateCells-from_lawful}
use Rattle.circuit_model.specs.Meaning.{circuit_meaning}
use Rattle.circuit_model.specs.ModelLaws.{circuit_laws}
use Rattle.circuit_model.specs.Parts.{IsCircuit}
use Rattle.run_laws.specs.Reached.{Reaches}
use Rattle.run_laws.proofs.ReachedLemmas.{reached-lawful}
use Rattle.run_laws.proofs.Steps.{IsStep, is_step, first_firing}
use Rattle.sim_spec.proofs.FiringLemmas.{goes-effect}
use Rattle.subject_laws.specs.Settled.{cells_at, output_at}
use Rattle.subject_laws.proofs.CircuitLemmas.Leaves.{Leaves, levels_after, gate_leaves}

-- an event of a circuit, from a lawful state to a lawful one
pub record IsCircuitStep (gates : List LogicGate) (t : Terms) (s : State) (told : Key × Note) (after : State) : Type 0 where
  pub step : IsStep (circuit_meaning gates) t s told after
  pub lawful : Lawful (circuit_meaning gates) t s
  pub lawful_after : Lawful (circuit_meaning gates) t after
  pub exists : step.event.key.dest < length gates
  pub long : length s.objects ≡ length gates
  pub cells : AreGateCells (length (gate_at gates step.event.key.dest).from) (cells_at s step.event.key.dest)
  pub effect_is : step.effect ≡ gate_effect gates step.event.key.dest (cells_at s step.event.key.dest) step.event

pub circuit_step : (gates : List LogicGate) (t : Terms) (s : State) (told : Key × Note) (after : State) → IsCircuit gates → Reaches (circuit_meaning gates) t s
    → next (circuit_meaning gates) t s ≡ does told after → IsCircuitStep gates t s told after
unfolding circuit_meaning
circuit_step gates t s told after fine reached is_next =
    let laws = circuit_laws gates fine in
    let step : IsStep (circuit_meaning gates) t s told after = is_step (circuit_meaning gates) t s told after is_next in
    let lawful : Lawful (circuit_meaning gates) t s = reached-lawful (circuit_meaning gates) t s laws reached in
    let exists : step.event.key.dest < length gates = (first_sound (circuit_meaning gates) t s step.event step.rest lawful step.pending).dest in
    record {
      step = step;
      lawful = lawful;
      lawful_after = next-lawful (circuit_meaning gates) t s told after laws lawful is_next;
      exists = exists;
      long = lawful.objects;
      cells = AreGateCells-from_lawful (gate_at gates step.event.key.dest) (cells_at s step.event.key.dest) (lawful.cells step.event.key.dest exists);
      effect_is = sym (goes-effect _ _ step.outcome);
    }

module _ (gates : List LogicGate) (t : Terms) (s : State) (told : Key × Note) (after : State) (n : IsCircuitStep gates t s told after) where
  -- the gate of the event, and where it stands before
  abbrev pub here : ℕ
  here = n.step.event.key.dest

  cells_here : cells_at after n.step.event.key.dest ≡ cells_after_all (gate_effect gates n.step.event.key.dest (cells_at s n.step.event.key.dest) n.step.event).changes (cells_at s n.step.event.key.dest)
  cells_here =
      let i : ℕ = n.step.event.key.dest in
      let inside : i < length s.objects = omega (arith, n.exists, n.long) in
      ap (λ s. cells_at s i) n.step.leaves
      ∙ ap (λ (o : ObjectState). o.cells) (get_or-set_same s.objects i (first_firing s n.step.event n.step.effect).state no_object inside)
      ∙ ap (λ (x : Effect). cells_after_all x.changes (cells_at s i)) n.effect_is

  leaves_here : Leaves (cells_at after n.step.event.key.dest) (output_after (gate_at gates n.step.event.key.dest) (cells_at s n.step.event.key.dest) n.step.event)
      (levels_after (gate_at gates n.step.event.key.dest) (cells_at s n.step.event.key.dest) n.step.event)
  leaves_here =
      let i : ℕ = n.step.event.key.dest in
      subst (λ c. Leaves c (output_after (gate_at gates i) (cells_at s i) n.step.event) (levels_after (gate_at gates i) (cells_at s i) n.step.event)) (sym cells_here)
      (gate_leaves gates i (cells_at s i) n.step.event n.cells)

  -- the gate of the event puts out what it is said to, and its pins are what they are said to be
  pub output_here : output_at after n.step.event.key.dest ≡ output_after (gate_at gates n.step.event.key.dest) (cells_at s n.step.event.key.dest) n.step.event
  output_here = leaves_here.output

  pub levels_here : levels_of (cells_at after n.step.event.key.dest) ≡ levels_after (gate_at gates n.step.event.key.dest) (cells_at s n.step.event.key.dest) n.step.event
  levels_here = leaves_here.levels

  -- each other gate stays as it is
  pub cells_elsewhere : (i : ℕ) → i ≢ n.step.event.key.dest → cells_at after i ≡ cells_at s i
  cells_elsewhere i apart =
      ap (λ s. cells_at s i) n.step.leaves
      ∙ ap (λ (o : ObjectState). o.cells) (get_or-set_other s.objects n.step.event.key.dest i (first_firing s n.step.event n.step.effect).state no_object apart)

  -- what it sends is enqueued among the others
  pub pending_after : after.pending ≡ enqueue_all (emissions n.step.event.key.stamp n.step.event.key.dest (object_at s.objects n.step.event.key.dest).sent
      (gate_effect gates n.step.event.key.dest (cells_at s n.step.event.key.dest) n.step.event).sends) n.step.rest
  pending_after =
      ap (λ (s : State). s.pending) n.step.leaves
      ∙ ap (λ (x : Effect). enqueue_all (emissions n.step.event.key.stamp n.step.event.key.dest (object_at s.objects n.step.event.key.dest).sent x.sends) n.step.rest) n.effect_is
