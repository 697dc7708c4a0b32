-- What a circuit means.
use Rattle.std.specs.Prelude.{List, length, ◌+◌, replicate, [], slice_index_or}
use Rattle.delta_exchange.specs.Changes.{CellData}
use Rattle.model_core.specs.declared.effect.Outcome.TheVariants.{Goes}
use Rattle.model_core.specs.Meaning.{Meaning}
use Rattle.model_core.specs.Words.{record_word, fault_word}
use Rattle.circuit_model.specs.declared.gate.LogicGate.{LogicGate}
use Rattle.circuit_model.specs.Events.{is_gate_cells, gate_effect}
use Rattle.circuit_model.specs.Gates.{gate_at}
use Rattle.circuit_model.specs.Starts.{starts_of, compute_start}

-- the output and all pins are 0 at first
abbrev pub first_gate_cells : LogicGate → CellData
first_gate_cells gate = record { words = replicate (length gate.from + 2) 0; lines = [] }

unfoldable pub circuit_meaning : List LogicGate → Meaning
circuit_meaning gates = record {
  objects = length gates;
  lawful = λ number cells. is_gate_cells (gate_at gates number) cells;
  effect = λ number cells event. Goes (gate_effect gates number cells event);
  first = λ number. first_gate_cells (gate_at gates number);
  starts = length (starts_of gates);
  start_at = λ i. slice_index_or (starts_of gates) i (compute_start 0);
  label = λ number. (gate_at gates number).name;
  word = record_word;
  fault = fault_word;
}
