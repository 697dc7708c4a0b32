use Rattle.std.proofs.Common.{arith, length, refl}
use Rattle.std.proofs.lemmas.Option.{slice_get_read, slice_get_within}
use Rattle.node_core.specs.Calls.{CommitsNothing, ReceivesNothing}
use Rattle.cycle_core.proofs.PlaceLemmas.{each-more}
use Rattle.cycle_core.proofs.knowing.know_idle.Goals as goal

pub loop-node-preserved : goal.loop-node-preserved
loop-node-preserved g c =
    let nodes = c.args.nodes.now in
    let place = c.loop-node.node-index in
    let n = c.node-item.result in
    let at = slice_get_read nodes (length nodes) place n refl (omega arith) c.node-item.is in (
      each-more (λ number n. CommitsNothing (g.M.Model.meaning n.model) n) nodes place n at c.loop-node.invariant.0 c.tells_idle.ensures.commits,
      each-more (λ number n. ReceivesNothing (g.M.Model.meaning n.model) n) nodes place n at c.loop-node.invariant.1 c.tells_idle.ensures.receives,
    )

pub returns-clause-commits : goal.returns-clause-commits
returns-clause-commits g c number n at = c.loop-node.invariant.0 number n (let lt = slice_get_within c.args.nodes.now number n at in omega arith) at

pub returns-clause-receives : goal.returns-clause-receives
returns-clause-receives g c number n at = c.loop-node.invariant.1 number n (let lt = slice_get_within c.args.nodes.now number n at in omega arith) at
