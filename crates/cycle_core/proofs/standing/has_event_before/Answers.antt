use Rattle.std.proofs.Common.{length, refl, arith}
use Rattle.std.proofs.lemmas.Option.{slice_get_read, slice_get_within}
use Rattle.cycle_core.specs.Gathered.{HasNoneBefore}
use Rattle.cycle_core.proofs.PlaceLemmas.{each-more}
use Rattle.cycle_core.proofs.standing.has_event_before.Goals as goal

pub returns-then-is_before-clause-some : goal.returns-then-is_before-clause-some
returns-then-is_before-clause-some g c is =
    let nodes = c.args.nodes.now in
    let n = c.node-item.result in
    (c.loop-node.node-index, n, slice_get_read nodes (length nodes) c.loop-node.node-index n refl (omega arith) c.node-item.is, c.is_before.ensures.some c.if-is_before.true)

pub loop-node-preserved : goal.loop-node-preserved
loop-node-preserved g c =
    let nodes = c.args.nodes.now in
    let n = c.node-item.result in
    let at = slice_get_read nodes (length nodes) c.loop-node.node-index n refl (omega arith) c.node-item.is in
    λ number x below at_x key may. each-more (λ number x. HasNoneBefore g.M.Model.meaning c.args.bound x) nodes c.loop-node.node-index n at c.loop-node.invariant (c.is_before.ensures.none c.if-is_before.false) number x below at_x key may

pub returns-clause-none : goal.returns-clause-none
returns-clause-none g c is number n at key may = c.loop-node.invariant number n (let lt = slice_get_within c.args.nodes.now number n at in omega arith) at key may
