-- A circuit without loops and flip-flops that has settled computes its function.
use Rattle.std.proofs.Common.{◌≡◌, ℕ, zero, suc, ◌<◌, ◌≤◌, Bool, true, false, List, [], length, map, refl, sym, ap, ◌∙◌, arith}
use Rattle.std.specs.Prelude.{if◌then◌else◌}
use Rattle.std.proofs.lemmas.List.{ext_get_or, get_or-map, length-map}
use Rattle.sim_spec.specs.declared.terms.Terms.{Terms}
use Rattle.sim_spec.specs.State.{State}
use Rattle.circuit_model.specs.declared.gate.LogicGate.{LogicGate}
use Rattle.circuit_model.specs.declared.gate.LogicKind.{LogicKind}
use Rattle.circuit_model.specs.declared.gate.LogicKind.TheVariants.{Input, Buf, Not, And, Or, Xor, Nand, Nor, Dff}
use Rattle.circuit_model.specs.Events.{levels_of}
use Rattle.circuit_model.specs.Gates.{gate_at, is_input, is_flip_flop, value_of}
use Rattle.circuit_model.specs.LawfulCells.{AreGateCells-from_lawful, length-levels_of}
use Rattle.circuit_model.specs.Meaning.{circuit_meaning}
use Rattle.circuit_model.specs.ModelLaws.{circuit_laws}
use Rattle.circuit_model.specs.Parts.{IsCircuit}
use Rattle.circuit_model.specs.Wiring.{pin, feeder}
use Rattle.run_laws.specs.Reached.{Reaches}
use Rattle.run_laws.proofs.ReachedLemmas.{reached-lawful}
use Rattle.subject_laws.specs.CircuitFunctions.{computed, IsAcyclic, ComputesItsFunction, InputsDecide}
use Rattle.subject_laws.specs.Settled.{cells_at, output_at, IsSettled}
use Rattle.subject_laws.proofs.CircuitLemmas.SettledLaw.{settled_law}

-- a gate that computes doesn't look at what it held
held_is_idle : (kind : LogicKind) (levels : List ℕ) (held : ℕ) → is_input kind ≡ false → is_flip_flop kind ≡ false → value_of kind levels held ≡ value_of kind levels 0
unfolding value_of
held_is_idle Input levels held computes none = absurd (cc)
held_is_idle Buf levels held computes none = refl
held_is_idle Not levels held computes none = refl
held_is_idle And levels held computes none = refl
held_is_idle Or levels held computes none = refl
held_is_idle Xor levels held computes none = refl
held_is_idle Nand levels held computes none = refl
held_is_idle Nor levels held computes none = refl
held_is_idle Dff levels held computes none = absurd (cc)

-- a gate has a level for each pin
levels_long : (gates : List LogicGate) (t : Terms) (s : State) (number : ℕ) → IsCircuit gates → Reaches (circuit_meaning gates) t s → number < length gates
    → length (levels_of (cells_at s number)) ≡ length (gate_at gates number).from
unfolding circuit_meaning
levels_long gates t s number fine reached exists =
    length-levels_of (length (gate_at gates number).from) (cells_at s number)
    (AreGateCells-from_lawful (gate_at gates number) (cells_at s number) ((reached-lawful (circuit_meaning gates) t s (circuit_laws gates fine) reached).cells number exists))

-- where a circuit has settled, the levels of a gate are what the gates that feed it put out, whatever that comes to
levels_are : (gates : List LogicGate) (t : Terms) (s : State) (number : ℕ) (out : ℕ → ℕ) → IsCircuit gates → Reaches (circuit_meaning gates) t s → s.pending ≡ [] → number < length gates
    → ((place : ℕ) → place < length (gate_at gates number).from → output_at s (feeder gates (pin number place)) ≡ out (feeder gates (pin number place)))
    → levels_of (cells_at s number) ≡ map out (gate_at gates number).from
levels_are gates t s number out fine reached nothing exists feeds =
    let settled : IsSettled gates s = settled_law gates t s fine reached nothing in
    let from : List ℕ = (gate_at gates number).from in
    let long : length (levels_of (cells_at s number)) ≡ length from = levels_long gates t s number fine reached exists in
    ext_get_or 0 (levels_of (cells_at s number)) (map out from) (long ∙ sym (length-map from out))
    (λ place within.
    let there : place < length from = omega arith in
    settled.pins number place exists there ∙ feeds place there ∙ sym (get_or-map out from place 0 0 there))

-- a gate that isn't an input puts out the value of its levels
puts_out : (gates : List LogicGate) (t : Terms) (s : State) (number : ℕ) → IsCircuit gates → Reaches (circuit_meaning gates) t s → s.pending ≡ [] → number < length gates
    → is_input (gate_at gates number).kind ≡ false → is_flip_flop (gate_at gates number).kind ≡ false
    → output_at s number ≡ value_of (gate_at gates number).kind (levels_of (cells_at s number)) 0
puts_out gates t s number fine reached nothing exists computes none =
    (settled_law gates t s fine reached nothing).values number exists
    ∙ held_is_idle (gate_at gates number).kind (levels_of (cells_at s number)) (output_at s number) computes none

computed_within : (gates : List LogicGate) (t : Terms) (s : State) (depth : ℕ → ℕ) → IsCircuit gates → IsAcyclic gates depth → Reaches (circuit_meaning gates) t s → s.pending ≡ []
    → (most number : ℕ) → depth number ≤ most → number < length gates → output_at s number ≡ computed most gates (output_at s) number
unfolding computed
computed_within gates t s depth fine acyclic reached nothing zero number below exists = refl
computed_within gates t s depth fine acyclic reached nothing (suc most) number below exists =
    by (is_input (gate_at gates number).kind) refl
    (λ i lower there. computed_within gates t s depth fine acyclic reached nothing most i lower there)
  where
    by : (input : Bool) → is_input (gate_at gates number).kind ≡ input
        → ((i : ℕ) → depth i ≤ most → i < length gates → output_at s i ≡ computed most gates (output_at s) i)
        → output_at s number ≡ (if input then output_at s number else value_of (gate_at gates number).kind (map (λ fed_by. computed most gates (output_at s) fed_by) (gate_at gates number).from) 0)
    by true is deeper = refl
    by false is deeper =
        puts_out gates t s number fine reached nothing exists is (acyclic.no_flip_flop number exists)
        ∙ ap (λ levels. value_of (gate_at gates number).kind levels 0)
        (levels_are gates t s number (λ fed_by. computed most gates (output_at s) fed_by) fine reached nothing exists
        (λ place within.
        let lower : depth (feeder gates (pin number place)) < depth number = acyclic.lower number place exists within in
        deeper (feeder gates (pin number place)) (omega arith) ((fine.linked.each number _ exists).from place 0 within)))

pub computes : ComputesItsFunction
computes gates t s depth number fine acyclic reached nothing exists = computed_within gates t s depth fine acyclic reached nothing (depth number) number (omega arith) exists

decided_within : (gates : List LogicGate) (t u : Terms) (s o : State) (depth : ℕ → ℕ) → IsCircuit gates → IsAcyclic gates depth
    → Reaches (circuit_meaning gates) t s → Reaches (circuit_meaning gates) u o → s.pending ≡ [] → o.pending ≡ []
    → ((i : ℕ) → i < length gates → is_input (gate_at gates i).kind ≡ true → output_at s i ≡ output_at o i)
    → (most number : ℕ) → depth number < most → number < length gates → output_at s number ≡ output_at o number
decided_within gates t u s o depth fine acyclic reached also nothing none inputs zero number below exists = absurd (omega arith)
decided_within gates t u s o depth fine acyclic reached also nothing none inputs (suc most) number below exists =
    by (is_input (gate_at gates number).kind) refl
    (λ i lower there. decided_within gates t u s o depth fine acyclic reached also nothing none inputs most i lower there)
  where
    by : (input : Bool) → is_input (gate_at gates number).kind ≡ input
        → ((i : ℕ) → depth i < most → i < length gates → output_at s i ≡ output_at o i) → output_at s number ≡ output_at o number
    by true is deeper = inputs number exists is
    by false is deeper =
        puts_out gates t s number fine reached nothing exists is (acyclic.no_flip_flop number exists)
        ∙ ap (λ levels. value_of (gate_at gates number).kind levels 0)
        (levels_are gates t s number (output_at o) fine reached nothing exists
        (λ place within.
        let lower : depth (feeder gates (pin number place)) < depth number = acyclic.lower number place exists within in
        deeper (feeder gates (pin number place)) (omega arith) ((fine.linked.each number _ exists).from place 0 within))
        ∙ sym (levels_are gates u o number (output_at o) fine also none exists (λ place within. refl)))
        ∙ sym (puts_out gates u o number fine also none exists is (acyclic.no_flip_flop number exists))

pub inputs_decide : InputsDecide
inputs_decide gates t u s o depth number fine acyclic reached also nothing none inputs exists =
    decided_within gates t u s o depth fine acyclic reached also nothing none inputs (suc (depth number)) number (omega arith) exists
