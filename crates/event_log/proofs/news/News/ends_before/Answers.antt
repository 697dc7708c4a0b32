-- The last one comes before the key, and so do all.
use Rattle.std.proofs.Common.{◌≡◌, ◌-◌, true, [], sym, ◌∙◌, subst, arith}
use Rattle.std.proofs.lemmas.List.{nil_from_length}
use Rattle.std.specs.List.{AllByRecursion as Each}
use Rattle.event_key.specs.Keys.{key_lt}
use Rattle.object_log.specs.Dones.{Done}
use Rattle.event_log.proofs.TakesFacts.{all-below}
use Rattle.event_log.proofs.news.News.ends_before.Goals as goal

pub returns-then-len-eq0 : goal.returns-then-len-eq0
returns-then-len-eq0 c = λ yes.
    let none = c.if-len-eq0.true in
    let empty : c.args.self.now.done ≡ [] = nil_from_length c.args.self.now.done (omega (arith, c.len-len.ensures)) in
    subst (Each (λ (d : Done). key_lt d.event.key c.args.key.now ≡ true)) (sym empty) tt

pub returns : goal.returns
returns c = λ yes.
    let counted = c.len-len.ensures in
    all-below c.args.self.now.done (c.len-len.result - 1) c.key_at.result c.args.key.now c.tells.ensures.ordered (omega arith) c.key_at.ensures (sym c.is_before.ensures ∙ yes)
