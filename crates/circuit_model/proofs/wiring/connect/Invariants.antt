use Rattle.std.proofs.Common.{◌++◌, map}
use Rattle.std.specs.List.{range_with_len}
use Rattle.circuit_model.specs.Wiring.{Lists, pins_below, pin}
use Rattle.circuit_model.proofs.wiring.connect.Given as goal

abbrev pub invariant-loop-place : goal.invariant-loop-place
invariant-loop-place l = Lists l.gates l.feeds.items (pins_below l.gates l.number ++ map (pin l.number) (range_with_len 0 l.place))
