-- The events with which a circuit begins.
use Rattle.std.specs.Prelude.{ℕ, Bool, not, List, ◌++◌, length, map, flat_map}
use Rattle.std.specs.List.{filter, range_with_len}
use Rattle.model_core.specs.declared.event.Start.{Start}
use Rattle.circuit_model.specs.declared.gate.LogicGate.{LogicGate}
use Rattle.circuit_model.specs.Gates.{gate_at, is_input}

-- a gate computes its output for the first time
abbrev pub compute_start : ℕ → Start
compute_start number = record { time = 0; dest = number; kind = 6; a = 0; b = 0; rank = 0 }

-- an input turns
abbrev pub flip_start : ℕ → ℕ → Start
flip_start number time = record { time = time; dest = number; kind = 7; a = 0; b = 0; rank = 0 }

-- whether a gate has an output to compute
abbrev pub computes : List LogicGate → ℕ → Bool
computes gates number = not (is_input (gate_at gates number).kind)

-- each of the first gates that is no input computes, in their order
unfoldable pub computes_below : List LogicGate → ℕ → List Start
computes_below gates count = map compute_start (filter (computes gates) (range_with_len 0 count))

abbrev pub flips_of : List LogicGate → ℕ → List Start
flips_of gates number = map (flip_start number) (gate_at gates number).flips

-- each of the first gates turns at its flips, in their order
unfoldable pub flips_below : List LogicGate → ℕ → List Start
flips_below gates count = flat_map (flips_of gates) (range_with_len 0 count)

abbrev pub all_flips : List LogicGate → List Start
all_flips gates = flips_below gates (length gates)

-- first the gates compute, and then the inputs turn
unfoldable pub starts_of : List LogicGate → List Start
starts_of gates = computes_below gates (length gates) ++ all_flips gates
