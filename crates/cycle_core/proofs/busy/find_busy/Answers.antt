use Rattle.std.proofs.Common.{◌≡◌, ℕ, suc, List, length, refl, sym, subst, arith, add-one}
use Rattle.std.proofs.lemmas.Option.{slice_get_read}
use Rattle.node_core.specs.Nodes.{NodeView}
use Rattle.cycle_core.specs.Busy.{AllBut, IsQuiet}
use Rattle.cycle_core.proofs.BusyLemmas.{but-none}
use Rattle.cycle_core.proofs.PassLemmas.{but-noted}
use Rattle.cycle_core.proofs.PlaceLemmas.{at-same}
use Rattle.cycle_core.proofs.busy.find_busy.Goals as goal

pub loop-i-init : goal.loop-i-init
loop-i-init g c =
    let B : List ℕ → Type 0 = λ places. AllBut IsQuiet c.args.nodes.now places 0 0 in
    subst B (sym c.clear.ensures.items) (but-none IsQuiet c.args.nodes.now)

pub loop-i-preserved : goal.loop-i-preserved
loop-i-preserved g c =
    let nodes = c.args.nodes.now in
    let i = c.loop-i.i in
    let n = c.index-nodes-i.result in
    let at = slice_get_read nodes (length nodes) i n refl (omega arith) c.index-nodes-i.is in
    let busy = c.note_busy.new.busy.items in
    let B : List (NodeView _) → Type 0 = λ ns. AllBut IsQuiet ns busy 0 (suc i) in
    rw add-one (subst B (at-same nodes i n at) (but-noted nodes i n c.loop-i.busy.items busy (omega arith) c.in_ok-note_busy.ensures c.loop-i.invariant))

pub returns : goal.returns
returns g c =
    let B : ℕ → Type 0 = AllBut IsQuiet c.args.nodes.now c.loop-i.busy.items 0 in
    subst B (let same : c.loop-i.i ≡ length c.args.nodes.now = omega arith in same) c.loop-i.invariant
