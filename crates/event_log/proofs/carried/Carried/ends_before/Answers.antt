-- The last one comes before the key, and so do all.
use Rattle.std.proofs.Common.{◌≡◌, ◌-◌, true, sym, ap, ◌∙◌, subst, arith}
use Rattle.std.proofs.lemmas.List.{nil_from_length}
use Rattle.std.specs.List.{AllByRecursion as Each}
use Rattle.event_key.specs.declared.key.Key.{Key}
use Rattle.event_key.specs.Keys.{key_lt}
use Rattle.object_log.specs.Carrying.{Placed, placed_key}
use Rattle.event_log.specs.Items.{CarriedView, placed}
use Rattle.event_log.proofs.EndFacts.{items-before}
use Rattle.event_log.proofs.carried.Carried.ends_before.Goals as goal

pub returns : goal.returns
returns c = λ yes.
    let a = c.at.ensures in
    let es = c.self.inside.items.items in
    let key = c.args.key.now in
    let some = c.if-len-eq0.false in
    let counted = c.len-len.ensures in
    let P : CarriedView → Type 0 = λ v. Each (λ (p : Placed). key_lt (placed_key p) key ≡ true) v.items in
    subst P c.self.view_is (items-before key es (c.len-len.result - 1) a.0 c.self.invariant.0 (omega arith) a.1 (ap (λ (j : Key). key_lt j key) (sym a.2.key_is) ∙ sym c.is_before.ensures ∙ yes))

pub returns-then-len-eq0 : goal.returns-then-len-eq0
returns-then-len-eq0 c = λ yes.
    let none = c.if-len-eq0.true in
    let counted = c.len-len.ensures in
    let empty = sym (ap (λ (v : CarriedView). v.items) c.self.view_is) ∙ ap placed (nil_from_length c.self.inside.items.items (omega arith)) in
    subst (Each (λ (p : Placed). key_lt (placed_key p) c.args.key.now ≡ true)) (sym empty) tt
