use Rattle.std.proofs.Common.{inl, inr, refl, arith}
use Rattle.std.proofs.lemmas.List.{nil_from_length}
use Rattle.cycle_core.proofs.busy.note_busy.Goals as goal

pub returns-then-pending-eq0 : goal.returns-then-pending-eq0
returns-then-pending-eq0 g c =
    let n = c.args.node.now in
    let sum = c.pending.ensures in
    inl ((nil_from_length n.processed (omega arith), nil_from_length n.waiting (omega arith)), refl)

pub returns : goal.returns
returns g c = inr c.in_ok-push.ensures.items
