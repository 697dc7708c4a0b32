use Rattle.std.proofs.Common.{◌∷◌, [], ap, sym, subst, arith, length, length-append}
use Rattle.node_core.specs.Blank.{IsBlank}
use Rattle.cycle_core.specs.Places.{AtEach}
use Rattle.cycle_core.proofs.PlaceLemmas.{at-push}
use Rattle.cycle_core.proofs.lists.blank_commits.Goals as goal

pub loop-preserved : goal.loop-preserved
loop-preserved c =
    let one = c.in_ok-new.field-0 in
    let items = c.push_reserved.ensures.items in
    let more = ap length items in
    let long = length-append c.loop.all.items (one ∷ []) in
    let was = c.loop.invariant.0 in
    let room = c.loop.invariant.2 in
    let kept = c.push_reserved.ensures.capacity in
    (omega arith, subst (AtEach (λ k. IsBlank c.args.nodes)) (sym items) (at-push (IsBlank c.args.nodes) c.loop.all.items one c.loop.invariant.1 c.in_ok-new.ensures), omega arith)
