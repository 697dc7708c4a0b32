use Rattle.std.proofs.Common.{◌≡◌, take}
use Rattle.circuit_model.specs.Events.{levels_of}
use Rattle.circuit_model.specs.Gates.{ones_in}
use Rattle.circuit_model.proofs.hot.HotGate.ones.Given as goal

abbrev pub invariant-loop-place : goal.invariant-loop-place
invariant-loop-place l = l.ones ≡ ones_in (take l.place (levels_of l.cells.contents))
