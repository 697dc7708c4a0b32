-- With those that are left the count is whole.
use Rattle.std.proofs.Common.{◌≡◌, ◌≤◌, ◌+◌, ◌*◌, ◌^◌, drop}
use Rattle.cycle_core.specs.Moving.{processed_in}
use Rattle.cycle_core.proofs.knowing.processed_at.Given as goal

abbrev pub invariant-loop-node : goal.invariant-loop-node
invariant-loop-node g l = record {
  whole : l.count + processed_in (drop l.node-index l.fn.nodes) ≡ processed_in l.fn.nodes;
  few : l.count ≤ l.node-index * 2 ^ 40;
}
