-- Each but the last of the others holds what it should.
use Rattle.std.proofs.Common.{◌-◌, List, length, sym, ap, ◌∙◌, subst, arith, length-drop}
use Rattle.event_log.specs.Items.{AreHeldBut, Item, placed}
use Rattle.event_log.specs.Turning.{turned_back}
use Rattle.event_log.proofs.TurnLemmas.{same-order, turned-but, turned-long}
use Rattle.event_log.proofs.carried.turn_back.Goals as goal

pub overflow_sub-rest : goal.overflow_sub-rest
overflow_sub-rest c = omega (arith, c.requires.within)

pub rotate_left-requires : goal.rotate_left-requires
rotate_left-requires c = c.requires.within

pub mend-requires-clause-inside : goal.mend-requires-clause-inside
mend-requires-clause-inside c =
    let turned = ap length c.rotate_left.ensures.items in
    let long = turned-long c.args.turned c.args.items.now.items c.requires.within in
    omega arith

pub mend-requires-clause-but : goal.mend-requires-clause-but
mend-requires-clause-but c =
    let n = c.args.turned in
    let es = c.args.items.now.items in
    let rest = length-drop n es in
    let counted = c.len.ensures in
    let within = c.requires.within in
    let B : List Item → Type 0 = AreHeldBut (c.len.result - n) in
    subst B (sym c.rotate_left.ensures.items) (turned-but n (c.len.result - n) es c.requires (omega arith))

pub returns-clause-same : goal.returns-clause-same
returns-clause-same c = c.mend.ensures.same ∙ ap placed c.rotate_left.ensures.items

pub returns-clause-ordered : goal.returns-clause-ordered
returns-clause-ordered c =
    let same = c.mend.ensures.same ∙ ap placed c.rotate_left.ensures.items in
    same-order c.mend.new.items.items (turned_back c.args.turned c.args.items.now.items) same c.requires.ordered
