use Rattle.circuit_model.specs.Hot.{HaveHot}
use Rattle.circuit_model.proofs.hot.HotGates.of.Given as goal

abbrev pub invariant-loop-number : goal.invariant-loop-number
invariant-loop-number l = HaveHot l.gates l.hot.gates.items l.hot.fed.items l.number
