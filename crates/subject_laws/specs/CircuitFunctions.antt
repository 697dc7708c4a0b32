-- The function of a circuit without loops and flip-flops.
use Rattle.std.specs.Prelude.{◌≡◌, ℕ, zero, suc, ◌<◌, true, false, if◌then◌else◌, List, [], length, map}
use Rattle.sim_spec.specs.declared.terms.Terms.{Terms}
use Rattle.sim_spec.specs.State.{State}
use Rattle.circuit_model.specs.declared.gate.LogicGate.{LogicGate}
use Rattle.circuit_model.specs.Gates.{gate_at, is_input, is_flip_flop, value_of}
use Rattle.circuit_model.specs.Meaning.{circuit_meaning}
use Rattle.circuit_model.specs.Parts.{IsCircuit}
use Rattle.circuit_model.specs.Wiring.{pin, feeder}
use Rattle.run_laws.specs.Reached.{Reaches}
use Rattle.subject_laws.specs.Settled.{output_at}

-- what a gate computes of what the inputs put out, so many gates deep
unfoldable pub computed : ℕ → List LogicGate → (ℕ → ℕ) → ℕ → ℕ
computed zero gates inputs number = inputs number
computed (suc depth) gates inputs number =
    if is_input (gate_at gates number).kind then inputs number
    else value_of (gate_at gates number).kind (map (λ fed_by. computed depth gates inputs fed_by) (gate_at gates number).from) 0

-- each gate is fed by gates of lesser depth, and none is a flip-flop
pub record IsAcyclic (gates : List LogicGate) (depth : ℕ → ℕ) : Type 0 where
  pub lower : (number place : ℕ) → number < length gates → place < length (gate_at gates number).from
      → depth (feeder gates (pin number place)) < depth number
  pub no_flip_flop : (number : ℕ) → number < length gates → is_flip_flop (gate_at gates number).kind ≡ false

abbrev pub ComputesItsFunction : Type 0
ComputesItsFunction =
    (gates : List LogicGate) (t : Terms) (s : State) (depth : ℕ → ℕ) (number : ℕ)
    → IsCircuit gates → IsAcyclic gates depth → Reaches (circuit_meaning gates) t s → s.pending ≡ [] → number < length gates
    → output_at s number ≡ computed (depth number) gates (output_at s) number

-- whatever the terms are, and by whatever flips the inputs came to what they put out
abbrev pub InputsDecide : Type 0
InputsDecide =
    (gates : List LogicGate) (t u : Terms) (s o : State) (depth : ℕ → ℕ) (number : ℕ)
    → IsCircuit gates → IsAcyclic gates depth → Reaches (circuit_meaning gates) t s → Reaches (circuit_meaning gates) u o
    → s.pending ≡ [] → o.pending ≡ []
    → ((i : ℕ) → i < length gates → is_input (gate_at gates i).kind ≡ true → output_at s i ≡ output_at o i)
    → number < length gates → output_at s number ≡ output_at o number
