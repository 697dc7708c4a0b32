-- It comes after the last one.
use Rattle.std.proofs.Common.{◌-◌, sym, ◌∙◌, arith}
use Rattle.event_log.proofs.TakesFacts.{all-below, not-faulted, takes-none}
use Rattle.event_log.proofs.news.News.takes.Goals as goal

pub returns-then-len-eq0 : goal.returns-then-len-eq0
returns-then-len-eq0 c = λ yes.
    let none = c.if-len-eq0.true in
    takes-none c.args.key.now c.args.self.now (omega (arith, c.len-len.ensures)) c.tells.ensures.sent

pub returns : goal.returns
returns c = λ yes.
    let v = c.args.self.now in
    let counted = c.len-len.ensures in
    record {
      above = all-below v.done (c.len-len.result - 1) c.key_at.result c.args.key.now c.tells.ensures.ordered (omega arith) c.key_at.ensures (sym c.is_before.ensures ∙ yes);
      went = sym c.faulted.ensures ∙ not-faulted c.faulted.result (sym c.is_some.ensures ∙ c.if-is_some.false);
      few = omega arith;
      few_sent = omega (arith, c.sent.ensures);
    }
