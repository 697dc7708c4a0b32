-- What events need of gates, beside the gates.
use Rattle.std.specs.Prelude.{◌≡◌, ℕ, ◌+◌, ◌*◌, ◌<◌, ◌≤◌, List, [], length, replicate, slice_range, slice_index_or}
use Rattle.circuit_model.specs.declared.gate.LogicGate.{LogicGate}
use Rattle.circuit_model.specs.declared.hot.HotGate.{HotGate}
use Rattle.circuit_model.specs.declared.wiring.Pin.{Pin}
use Rattle.circuit_model.specs.Gates.{gate_at, no_gate}
use Rattle.circuit_model.specs.Wiring.{fed_by}

-- what an event needs of a gate that feeds so many pins, the first of which stands at this place of the list of all
abbrev pub hot_of : LogicGate → ℕ → ℕ → HotGate
hot_of gate first fed = record { delay = gate.delay; first = first; fed = fed; kind = gate.kind; pins = length gate.from; probe = gate.probe }

abbrev pub hot_at : List HotGate → ℕ → HotGate
hot_at hots number = slice_index_or hots number (hot_of no_gate 0 0)

-- a gate at which events do the same, whoever feeds its pins
abbrev pub bare : HotGate → LogicGate
bare hot = record { name = []; kind = hot.kind; delay = hot.delay; from = replicate hot.pins 0; flips = []; probe = hot.probe }

-- the pins that it feeds
abbrev pub pins_fed : List Pin → HotGate → List Pin
pins_fed fed hot = slice_range fed hot.first (hot.first + hot.fed)

-- it has what events need of the gate with this number
pub record StandsFor (gates : List LogicGate) (fed : List Pin) (number : ℕ) (hot : HotGate) : Type 0 where
  pub kind : hot.kind ≡ (gate_at gates number).kind
  pub pins : hot.pins ≡ length (gate_at gates number).from
  pub delay : hot.delay ≡ (gate_at gates number).delay
  pub probe : hot.probe ≡ (gate_at gates number).probe
  pub within : hot.first + hot.fed ≤ length fed
  pub feeds : pins_fed fed hot ≡ fed_by gates number

-- so do these, each of the gate at its place, for so many of the first gates
pub record HaveHot (gates : List LogicGate) (hots : List HotGate) (fed : List Pin) (count : ℕ) : Type 0 where
  pub size : length hots ≡ count
  pub few : length fed ≤ 8 * count
  pub each : (number : ℕ) → number < count → StandsFor gates fed number (hot_at hots number)
