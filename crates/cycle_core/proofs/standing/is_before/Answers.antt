use Rattle.std.proofs.Common.{arith, ltb-true, ltb-false}
use Rattle.std.proofs.lemmas.List.{nil_from_length}
use Rattle.cycle_core.proofs.StandingLemmas.{key-none, none-before}
use Rattle.cycle_core.proofs.standing.is_before.Goals as goal

pub returns-then-pending-eq0-clause-none : goal.returns-then-pending-eq0-clause-none
returns-then-pending-eq0-clause-none g c is key may =
    let n = c.args.node.now in
    let sum = c.pending.ensures in
    absurd (key-none g.M.Model.meaning n c.tells_keys.ensures (nil_from_length n.processed (omega arith), nil_from_length n.waiting (omega arith)) key may)

pub returns-in-Some-clause-some : goal.returns-in-Some-clause-some
returns-in-Some-clause-some g c is =
    let least = rw c.in-Some.is at c.least.ensures in
    (c.in-Some.key, least.0, ltb-true c.in-Some.key.stamp c.args.bound is)

pub returns-in-Some-clause-none : goal.returns-in-Some-clause-none
returns-in-Some-clause-none g c is =
    let least = rw c.in-Some.is at c.least.ensures in
    none-before g.M.Model.meaning c.args.node.now c.args.bound c.in-Some.key least (ltb-false c.in-Some.key.stamp c.args.bound is)

pub returns-in-None-clause-none : goal.returns-in-None-clause-none
returns-in-None-clause-none g c is key may =
    let least = rw c.in-None.is at c.least.ensures in
    absurd (key-none g.M.Model.meaning c.args.node.now c.tells_keys.ensures least key may)
