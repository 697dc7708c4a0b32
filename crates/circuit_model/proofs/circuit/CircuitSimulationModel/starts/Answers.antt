use Rattle.std.proofs.Common.{length, ap, arith}
use Rattle.circuit_model.specs.ModelLaws.{length-starts_of}
use Rattle.circuit_model.proofs.circuit.CircuitSimulationModel.starts.Goals as goal

pub overflow_cast-result : goal.overflow_cast-result
overflow_cast-result c =
    omega (arith, ap length c.args.self.now.listed, length-starts_of c.args.self.now.gates.items c.args.self.now.in_range, c.len.ensures)
