use Rattle.std.proofs.Common.{arith}
use Rattle.tick_queue.proofs.NearLemmas.{last_decides}
use Rattle.tick_queue.proofs.near.Near.is_before.Goals as goal

pub returns-clause-yes : goal.returns-clause-yes
returns-clause-yes c =
    (last_decides c.args.key.now c.len.result c.len-2.result c.event_of-last.result.now c.is_before.result c.self.invariant c.self.view_is (omega (arith, c.len.ensures)) (omega (arith, c.len-2.ensures)) c.if-self-len.false c.event_of-last.ensures c.is_before.ensures c.requires).0

pub returns-clause-no : goal.returns-clause-no
returns-clause-no c =
    (last_decides c.args.key.now c.len.result c.len-2.result c.event_of-last.result.now c.is_before.result c.self.invariant c.self.view_is (omega (arith, c.len.ensures)) (omega (arith, c.len-2.ensures)) c.if-self-len.false c.event_of-last.ensures c.is_before.ensures c.requires).1
