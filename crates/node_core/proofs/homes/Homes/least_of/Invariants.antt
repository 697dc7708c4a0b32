-- None was the node's.
use Rattle.std.proofs.Common.{◌≢◌, ◌<◌, ℕ}
use Rattle.node_core.specs.Homes.{home_of}
use Rattle.node_core.proofs.homes.Homes.least_of.Given as goal

abbrev pub invariant-loop-object : goal.invariant-loop-object
invariant-loop-object l = (object : ℕ) → object < l.object → home_of l.fn.self object ≢ l.node
