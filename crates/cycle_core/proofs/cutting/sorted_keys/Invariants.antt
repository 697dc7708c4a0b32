use Rattle.std.proofs.Common.{◌≡◌, ◌++◌, drop}
use Rattle.cycle_core.specs.Gathered.{keys_in}
use Rattle.cycle_core.proofs.cutting.sorted_keys.Given as goal

abbrev pub invariant-loop-node : goal.invariant-loop-node
invariant-loop-node g l = l.keys.items ++ keys_in l.fn.bound (drop l.node-index l.nodes) ≡ keys_in l.fn.bound l.nodes
