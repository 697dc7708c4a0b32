use Rattle.std.proofs.Common.{◌≡◌, ◌++◌, drop}
use Rattle.node_core.specs.Nodes.{IsAsBefore}
use Rattle.cycle_core.specs.Snapshots.{waiting_in}
use Rattle.cycle_core.proofs.PlaceLemmas.{IsUpto}
use Rattle.cycle_core.proofs.saving.pending_of.Given as goal

abbrev pub invariant-loop-node : goal.invariant-loop-node
invariant-loop-node g l = record {
  same : IsUpto IsAsBefore l.node-index l.initial.nodes l.nodes;
  read : l.pending.items ++ waiting_in (drop l.node-index l.initial.nodes) ≡ waiting_in l.initial.nodes;
}
