use Rattle.cycle_core.specs.Snapshots.{IsUndone}
use Rattle.cycle_core.proofs.PlaceLemmas.{IsUpto}
use Rattle.cycle_core.proofs.saving.undo_all.Given as goal

abbrev pub invariant-loop-node : goal.invariant-loop-node
invariant-loop-node g l = IsUpto (λ old new. IsUndone (g.M.Model.meaning old.model) old new) l.node-index l.initial.nodes l.nodes
