-- Node by node all is undone.
use Rattle.std.proofs.Common.{add-one, arith}
use Rattle.std.proofs.lemmas.Option.{slice_get-get_or}
use Rattle.cycle_core.specs.Snapshots.{IsUndone}
use Rattle.cycle_core.proofs.PlaceLemmas.{upto-all, upto-more}
use Rattle.cycle_core.proofs.SnapshotLemmas.{undone-all}
use Rattle.cycle_core.proofs.saving.undo_all.Goals as goal

pub loop-node-preserved : goal.loop-node-preserved
loop-node-preserved g c =
    let at = slice_get-get_or c.loop-node.nodes c.loop-node.node-index c.node-item.result (omega arith) in
    rw add-one
    (upto-more (λ old new. IsUndone (g.M.Model.meaning old.model) old new) c.loop-node.node-index c.args.nodes.now c.loop-node.nodes _ c.undo_from.new.self c.loop-node.invariant at
    (undone-all _ _ c.undo_from.new.self c.undo_from.result c.undo_from.ensures))

pub returns : goal.returns
returns g c = upto-all (λ old new. IsUndone (g.M.Model.meaning old.model) old new) c.loop-node.node-index c.args.nodes.now c.loop-node.nodes (omega arith) c.loop-node.invariant
