-- Circuits that have settled.
use Rattle.std.specs.Prelude.{◌≡◌, ◌⊎◌, ℕ, ◌<◌, ◌%◌, Bool, false, ◌==◌, ◌&&◌, if◌then◌else◌, [], ◌∷◌, length, slice_index, All, Contains}
use Rattle.delta_exchange.specs.Changes.{CellData}
use Rattle.model_core.specs.declared.event.Event.{Event}
use Rattle.sim_spec.specs.declared.terms.Terms.{Terms}
use Rattle.sim_spec.specs.State.{State, object_at}
use Rattle.circuit_model.specs.declared.gate.LogicGate.{LogicGate}
use Rattle.circuit_model.specs.Events.{output_of, levels_of}
use Rattle.circuit_model.specs.Gates.{gate_at, value_of}
use Rattle.circuit_model.specs.Meaning.{circuit_meaning}
use Rattle.circuit_model.specs.Parts.{IsCircuit}
use Rattle.circuit_model.specs.Wiring.{pin, feeder}
use Rattle.run_laws.specs.Reached.{Reaches}
use Rattle.std.specs.Prelude.{List}

abbrev pub cells_at : State → ℕ → CellData
cells_at s number = (object_at s.objects number).cells

-- what a gate puts out in a state
abbrev pub output_at : State → ℕ → ℕ
output_at s number = output_of (cells_at s number)

-- what a pin of a gate is in a state
abbrev pub level_at : State → ℕ → ℕ → ℕ
level_at s number place = slice_index (levels_of (cells_at s number)) place

-- a gate puts out the value of its pins: an input and a flip-flop, which hold their output, always do
abbrev pub IsComputed : List LogicGate → State → ℕ → Type 0
IsComputed gates s number = output_at s number ≡ value_of (gate_at gates number).kind (levels_of (cells_at s number)) (output_at s number)

-- each pin is what the gate that feeds it puts out, and each gate puts out the value of its pins
pub record IsSettled (gates : List LogicGate) (s : State) : Type 0 where
  pub pins : (number place : ℕ) → number < length gates → place < length (gate_at gates number).from → level_at s number place ≡ output_at s (feeder gates (pin number place))
  pub values : (number : ℕ) → number < length gates → IsComputed gates s number

-- an event brings a level to this pin of a gate
abbrev pub is_for : ℕ → ℕ → Event → Bool
is_for number place e = e.kind == 5 && e.key.dest == number && e.a == place

-- what a pin at this level becomes by these events, one after another
unfoldable pub arriving : ℕ → ℕ → ℕ → List Event → ℕ
arriving number place level [] = level
arriving number place level (e ∷ es) = arriving number place (if is_for number place e then e.b % 2 else level) es

-- an event at which a gate computes what it puts out
pub record IsToCompute (number : ℕ) (e : Event) : Type 0 where
  pub kind : e.kind ≡ 6
  pub dest : e.key.dest ≡ number

abbrev pub WillCompute : ℕ → List Event → Type 0
WillCompute number es = (e : Event) × Contains es e × IsToCompute number e

-- what is on its way to a pin makes it what the gate that feeds it puts out now, and each gate puts out the value of its pins or has yet
-- to compute at the start
pub record IsSettling (gates : List LogicGate) (s : State) : Type 0 where
  pub pins : (number place : ℕ) → number < length gates → place < length (gate_at gates number).from
      → arriving number place (level_at s number place) s.pending ≡ output_at s (feeder gates (pin number place))
  pub values : (number : ℕ) → number < length gates → IsComputed gates s number ⊎ WillCompute number s.pending

-- so it is in every reached state
abbrev pub SettlingLaw : Type 0
SettlingLaw = (gates : List LogicGate) (t : Terms) (s : State) → IsCircuit gates → Reaches (circuit_meaning gates) t s → IsSettling gates s

-- no level is on its way to the pin
abbrev pub NoneOnItsWay : State → ℕ → ℕ → Type 0
NoneOnItsWay s number place = All (λ (e : Event). is_for number place e ≡ false) s.pending

-- such a pin is what the gate that feeds it puts out, whatever else is pending
abbrev pub StillPinsLaw : Type 0
StillPinsLaw =
    (gates : List LogicGate) (t : Terms) (s : State) (number place : ℕ) → IsCircuit gates → Reaches (circuit_meaning gates) t s
    → number < length gates → place < length (gate_at gates number).from → NoneOnItsWay s number place
    → level_at s number place ≡ output_at s (feeder gates (pin number place))

-- where nothing is pending the circuit has settled
abbrev pub SettledLaw : Type 0
SettledLaw = (gates : List LogicGate) (t : Terms) (s : State) → IsCircuit gates → Reaches (circuit_meaning gates) t s → s.pending ≡ [] → IsSettled gates s
