use Rattle.std.proofs.Common.{◌≡◌, map, take}
use Rattle.circuit_model.specs.Events.{level_to}
use Rattle.circuit_model.specs.Gates.{delay_of}
use Rattle.circuit_model.specs.Hot.{bare}
use Rattle.circuit_model.proofs.hot.HotGate.send_all.Given as goal

abbrev pub invariant-loop-pin : goal.invariant-loop-pin
invariant-loop-pin l = l.sends ≡ map (level_to (delay_of (bare l.self)) l.output) (take l.pin-index l.pins)
