use Rattle.std.proofs.Common.{◌≡◌, ◌<◌, ◌∙◌, ℕ, List, length, sym, subst, arith, add-one}
use Rattle.std.proofs.lemmas.List.{get_or-set_same}
use Rattle.std.proofs.lemmas.Option.{slice_get-get_or}
use Rattle.node_core.specs.Nodes.{NodeView}
use Rattle.cycle_core.specs.Busy.{AllBut, HasNoted, IsQuiet}
use Rattle.cycle_core.proofs.BusyLemmas.{but-more, but-none, but-not, but-past}
use Rattle.cycle_core.proofs.PassLemmas.{but-noted, receiving-all, receiving-emptied, receiving-more, receiving-none, receiving-over}
use Rattle.cycle_core.proofs.PlaceLemmas.{at-some}
use Rattle.cycle_core.proofs.ending.receive_among.Goals as goal

pub loop-i-init : goal.loop-i-init
loop-i-init g c =
    let B : List ℕ → Type 0 = λ places. AllBut IsQuiet c.args.nodes.now places 0 0 in
    (receiving-none g.M.Model.meaning c.args.parcels.now c.args.nodes.now, c.requires.busy, subst B (sym c.clear.ensures.items) (but-none IsQuiet c.args.nodes.now))

pub receive_parcel-requires-after_bounds : goal.receive_parcel-requires-after_bounds
receive_parcel-requires-after_bounds g c lifetimes outlives =
    let place = c.loop-i.i in
    let many = c.requires.many in
    let same = c.loop-i.invariant.0.many in
    let at = slice_get-get_or c.loop-i.nodes place c.index-nodes-i.result (omega arith) in
    let parcel = slice_get-get_or c.loop-i.parcels place c.index-parcels-i-in-loop-i.result (omega arith) in
    c.requires.can place _ _ (sym (c.loop-i.invariant.0.upto.rest place (omega arith)) ∙ at) (sym (c.loop-i.invariant.0.behind place (omega arith)) ∙ parcel)

pub loop-i-preserved-then-is_passed_over : goal.loop-i-preserved-then-is_passed_over
loop-i-preserved-then-is_passed_over g c =
    let place = c.loop-i.i in
    let many = c.requires.many in
    let so_far = c.loop-i.invariant.0 in
    let long = so_far.many in
    let same = so_far.upto.many in
    let passed = c.is_passed_over.ensures c.if-is_passed_over.true in
    let node = at-some c.loop-i.nodes place (omega arith) in
    let old = sym (so_far.upto.rest place (omega arith)) ∙ node.1 in
    let parcel = slice_get-get_or c.loop-i.parcels place c.index-parcels-i.result (omega arith) in
    let first = sym (so_far.behind place (omega arith)) ∙ parcel in
    let left = but-not IsQuiet c.args.nodes.now c.args.busy.now place (length c.args.nodes.now) c.loop-i.named c.loop-i.invariant.1 (omega arith) (c.past-next.ensures.other passed.0) in
    let quiet = left.0 place node.0 (omega arith) (omega arith) old in (
      receiving-over g.M.Model.meaning c.args.parcels.now c.args.nodes.now place c.loop-i.parcels c.loop-i.nodes node.0 _ so_far node.1 parcel passed.1 (c.know_idle.ensures.receives place node.0 old) (c.requires.can place node.0 _ old first),
      rw add-one left.1,
      rw add-one (but-more IsQuiet c.loop-i.nodes c.loop-i.found.items 0 place node.0 c.loop-i.invariant.2 node.1 quiet),
    )

pub loop-i-preserved : goal.loop-i-preserved
loop-i-preserved g c =
    let place = c.loop-i.i in
    let many = c.requires.many in
    let so_far = c.loop-i.invariant.0 in
    let long = so_far.many in
    let same = so_far.upto.many in
    let at = slice_get-get_or c.loop-i.nodes place c.index-nodes-i.result (omega arith) in
    let parcel = slice_get-get_or c.loop-i.parcels place c.index-parcels-i-in-loop-i.result (omega arith) in
    let below : place < length c.loop-i.nodes = omega arith in
    let under : place < length c.args.nodes.now = omega arith in
    let kept = get_or-set_same c.loop-i.nodes place c.receive_parcel.new.node c.index-nodes-i-in-loop-i.result below in
    let N : NodeView _ → Type 0 = λ n. HasNoted place n c.loop-i.found.items c.note_busy.new.busy.items in (
      receiving-more g.M.Model.meaning c.args.parcels.now c.args.nodes.now place c.loop-i.parcels c.loop-i.nodes _ _ _ _ so_far at parcel c.in_ok-receive_parcel.ensures.received c.in_ok-receive_parcel.ensures.emptied,
      rw add-one (but-past IsQuiet c.args.nodes.now c.args.busy.now place (length c.args.nodes.now) c.loop-i.named c.past-next.result c.past-next.ensures c.loop-i.invariant.1 under),
      rw add-one (but-noted c.loop-i.nodes place c.receive_parcel.new.node c.loop-i.found.items c.note_busy.new.busy.items below (subst N kept c.in_ok-note_busy.ensures) c.loop-i.invariant.2),
    )

pub returns-clause-emptied : goal.returns-clause-emptied
returns-clause-emptied g c =
    let many = c.requires.many in
    let long = c.loop-i.invariant.0.upto.many in
    receiving-emptied g.M.Model.meaning c.args.parcels.now c.args.nodes.now c.loop-i.i c.loop-i.parcels c.loop-i.nodes (omega arith) c.loop-i.invariant.0

pub returns-clause-received : goal.returns-clause-received
returns-clause-received g c =
    let long = c.loop-i.invariant.0.upto.many in
    receiving-all g.M.Model.meaning c.args.parcels.now c.args.nodes.now c.loop-i.i c.loop-i.parcels c.loop-i.nodes (omega arith) c.loop-i.invariant.0

pub returns-clause-busy : goal.returns-clause-busy
returns-clause-busy g c =
    let B : ℕ → Type 0 = AllBut IsQuiet c.loop-i.nodes c.loop-i.found.items 0 in
    subst B (let same : c.loop-i.i ≡ length c.loop-i.nodes = omega arith in same) c.loop-i.invariant.2
