use Rattle.std.proofs.Common.{◌≡◌, ◌++◌, map, take}
use Rattle.circuit_model.specs.Starts.{flip_start}
use Rattle.circuit_model.proofs.starts.add_flips.Given as goal

abbrev pub invariant-loop-time : goal.invariant-loop-time
invariant-loop-time l = l.starts.items ≡ l.initial.starts.items ++ map (flip_start l.number) (take l.time-index l.time-items)
