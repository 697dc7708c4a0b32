-- The gates of a circuit lie within their bounds, and are linked to gates that there are.
use Rattle.std.specs.Prelude.{◌≡◌, ℕ, ◌^◌, ◌<◌, ◌≤◌, List, [], length, All, Option, Some, None}
use Rattle.circuit_model.specs.declared.limits.TheConstants.{MOST_DELAY, MOST_FED, MOST_FLIPS}
use Rattle.model_core.specs.declared.limits.TheConstants.{MOST_OBJECTS}
use Rattle.circuit_model.specs.declared.gate.LogicGate.{LogicGate}
use Rattle.circuit_model.specs.declared.gate.LogicKind.{LogicKind}
use Rattle.circuit_model.specs.declared.gate.LogicKind.TheVariants.{Input, Buf, Not, And, Or, Xor, Nand, Nor, Dff}
use Rattle.circuit_model.specs.Gates.{HasPins}
use Rattle.circuit_model.specs.Starts.{all_flips}
use Rattle.circuit_model.specs.Wiring.{fed_by}

-- an input turns at times that there are, and no other gate turns
abbrev pub HasFlips : LogicKind → List ℕ → Type 0
HasFlips Input flips = All (λ time. time < 2 ^ 46) flips
HasFlips Buf flips = flips ≡ []
HasFlips Not flips = flips ≡ []
HasFlips And flips = flips ≡ []
HasFlips Or flips = flips ≡ []
HasFlips Xor flips = flips ≡ []
HasFlips Nand flips = flips ≡ []
HasFlips Nor flips = flips ≡ []
HasFlips Dff flips = flips ≡ []

pub record IsGate (gates : List LogicGate) (gate : LogicGate) : Type 0 where
  pub delay : gate.delay ≤ MOST_DELAY
  pub pins : HasPins gate.kind (length gate.from)
  pub from : All (λ number. number < length gates) gate.from
  pub flips : HasFlips gate.kind gate.flips

-- few gates, each within its bounds and fed by gates that there are
pub record AreLinked (gates : List LogicGate) : Type 0 where
  pub few_gates : length gates ≤ MOST_OBJECTS
  pub each : All (IsGate gates) gates

-- a gate feeds few pins
abbrev pub FeedsFew : List LogicGate → ℕ → Type 0
FeedsFew gates number = length (fed_by gates number) ≤ MOST_FED

-- few flips over all gates, and each gate feeds few pins
pub record IsCircuit (gates : List LogicGate) : Type 0 where
  pub linked : AreLinked gates
  pub few_flips : length (all_flips gates) ≤ MOST_FLIPS
  pub fan_out : (number : ℕ) → number < length gates → FeedsFew gates number

-- the gate feeds too many pins, and each one before it feeds few
pub record IsFirstOverload (gates : List LogicGate) (number : ℕ) : Type 0 where
  pub exists : number < length gates
  pub many : MOST_FED < length (fed_by gates number)
  pub before : (earlier : ℕ) → earlier < number → FeedsFew gates earlier

-- the first gate that feeds too many pins, if one does
abbrev pub FindsOverload : List LogicGate → Option ℕ → Type 0
FindsOverload gates None = (number : ℕ) → number < length gates → FeedsFew gates number
FindsOverload gates (Some number) = IsFirstOverload gates number
