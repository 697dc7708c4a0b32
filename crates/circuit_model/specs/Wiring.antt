-- Which pins a gate feeds.
use Rattle.std.specs.Prelude.{◌≡◌, ℕ, ◌<◌, ◌==◌, List, [], length, map, flat_map, slice_index, slice_index_or}
use Rattle.std.specs.List.{filter, range_with_len}
use Rattle.circuit_model.specs.declared.gate.LogicGate.{LogicGate}
use Rattle.circuit_model.specs.declared.wiring.Pin.{Pin}
use Rattle.circuit_model.specs.Gates.{gate_at}

abbrev pub pin : ℕ → ℕ → Pin
pin gate place = record { gate = gate; place = place }

-- the pins of a gate are numbered from 0 on
abbrev pub pins_of : List LogicGate → ℕ → List Pin
pins_of gates number = map (pin number) (range_with_len 0 (length (gate_at gates number).from))

-- the pins of the first gates, in the order of gate and place
unfoldable pub pins_below : List LogicGate → ℕ → List Pin
pins_below gates count = flat_map (pins_of gates) (range_with_len 0 count)

abbrev pub all_pins : List LogicGate → List Pin
all_pins gates = pins_below gates (length gates)

-- the gate that feeds a pin
abbrev pub feeder : List LogicGate → Pin → ℕ
feeder gates p = slice_index (gate_at gates p.gate).from p.place

-- those of some pins that a gate feeds, in their order
unfoldable pub fed_among : List LogicGate → ℕ → List Pin → List Pin
fed_among gates number pins = filter (λ p. feeder gates p == number) pins

-- the pins that a gate feeds, in the order of gate and place
abbrev pub fed_by : List LogicGate → ℕ → List Pin
fed_by gates number = fed_among gates number (all_pins gates)

-- the lists have for each gate those of some pins that it feeds
pub record Lists (gates : List LogicGate) (feeds : List (List Pin)) (pins : List Pin) : Type 0 where
  pub size : length feeds ≡ length gates
  pub each : (number : ℕ) → number < length gates → slice_index_or feeds number [] ≡ fed_among gates number pins
