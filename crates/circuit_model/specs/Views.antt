-- The gates that a circuit keeps.
use Rattle.std.specs.Prelude.{List}
use Rattle.circuit_model.specs.declared.circuit.Circuit.{Circuit}
use Rattle.circuit_model.specs.declared.gate.LogicGate.{LogicGate}

abbrev pub gates_of : Circuit → List LogicGate
gates_of circuit = circuit.gates.items
