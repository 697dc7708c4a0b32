use Rattle.std.proofs.Common.{ℕ, suc, length, refl, arith, add-one, get_or, rules}
use Rattle.std.proofs.lemmas.Option.{slice_get-get_or, slice_get_read, slice_get_within}
use Rattle.cycle_core.specs.Busy.{IsQuiet}
use Rattle.cycle_core.specs.Gathered.{HasNoneBefore}
use Rattle.cycle_core.proofs.BusyLemmas.{but-below, pass-at, pass-end}
use Rattle.cycle_core.proofs.PassLemmas.{NoneUpto, next-place, none-over}
use Rattle.cycle_core.proofs.PlaceLemmas.{each-more}
use Rattle.cycle_core.proofs.standing.has_event_among.Goals as goal

pub loop-k-init : goal.loop-k-init
loop-k-init g c = record { from = 0; left = c.requires; done = λ number n below at. absurd (omega arith) }

pub bounds-nodes-place : goal.bounds-nodes-place
bounds-nodes-place g c = but-below IsQuiet c.args.nodes.now c.args.busy.now c.loop-k.k (get_or c.args.busy.now c.loop-k.k 0) 0 (length c.args.nodes.now) c.requires (slice_get-get_or c.args.busy.now c.loop-k.k 0 (omega arith))

pub offset_bounds-nodes-place : goal.offset_bounds-nodes-place
offset_bounds-nodes-place g c =
    let within = but-below IsQuiet c.args.nodes.now c.args.busy.now c.loop-k.k (get_or c.args.busy.now c.loop-k.k 0) 0 (length c.args.nodes.now) c.requires (slice_get-get_or c.args.busy.now c.loop-k.k 0 (omega arith)) in
    search rules

pub returns-then-is_before-clause-some : goal.returns-then-is_before-clause-some
returns-then-is_before-clause-some g c is =
    let nodes = c.args.nodes.now in
    let place = get_or c.args.busy.now c.loop-k.k 0 in
    let n = c.index-nodes-place.result in
    let within = but-below IsQuiet nodes c.args.busy.now c.loop-k.k place 0 (length nodes) c.requires (slice_get-get_or c.args.busy.now c.loop-k.k 0 (omega arith)) in
    (place, n, slice_get_read nodes (length nodes) place n refl within c.index-nodes-place.is, c.is_before.ensures.some c.if-is_before.true)

pub loop-k-preserved : goal.loop-k-preserved
loop-k-preserved g c =
    let of = g.M.Model.meaning in
    let nodes = c.args.nodes.now in
    let busy = c.args.busy.now in
    let place = get_or busy c.loop-k.k 0 in
    let n = c.index-nodes-place.result in
    let N : ℕ → Type 0 = NoneUpto of c.args.bound nodes in
    let here = pass-at IsQuiet nodes N (none-over of c.args.bound nodes c.know_all.ensures) busy c.loop-k.k place (length nodes) (omega arith) (slice_get-get_or busy c.loop-k.k 0 (omega arith)) c.loop-k.invariant in
    let at = slice_get_read nodes (length nodes) place n refl here.within c.index-nodes-place.is in
    let more = each-more (λ number x. HasNoneBefore of c.args.bound x) nodes place n at here.done (λ key may. c.is_before.ensures.none c.if-is_before.false key may) in
    rw add-one (record { from = suc place; left = here.left; done = next-place N place more })

pub returns-clause-none : goal.returns-clause-none
returns-clause-none g c is number n at key may =
    let of = g.M.Model.meaning in
    let nodes = c.args.nodes.now in
    let N : ℕ → Type 0 = NoneUpto of c.args.bound nodes in
    pass-end IsQuiet nodes N (none-over of c.args.bound nodes c.know_all.ensures) c.args.busy.now c.loop-k.k (length nodes) (omega arith) (omega arith) c.loop-k.invariant number n (slice_get_within nodes number n at) at key may
