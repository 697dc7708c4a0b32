-- The first event has the least key.
use Rattle.std.proofs.Common.{◌≡◌, Some, sym, ap, ◌∙◌, subst, arith}
use Rattle.std.proofs.lemmas.List.{nil_from_length}
use Rattle.std.specs.Prelude.{slice_get}
use Rattle.event_log.specs.Items.{CarriedView, placed, placed_of}
use Rattle.object_log.proofs.CarriedLemmas.{read-map}
use Rattle.event_log.proofs.carried.Carried.first.Goals as goal

pub returns-clause-some : goal.returns-clause-some
returns-clause-some c =
    let a = c.at.ensures in
    let es = c.self.inside.items.items in
    let some = c.if-len-eq0.false in
    let counted = c.len.ensures in
    let P : CarriedView → Type 0 = λ v. slice_get v.items 0 ≡ Some (placed_of a.0) in
    (placed_of a.0, subst P c.self.view_is (read-map placed_of es 0 a.0 (omega arith) a.1), a.2.key_is)

pub returns-then-len-eq0-clause-none : goal.returns-then-len-eq0-clause-none
returns-then-len-eq0-clause-none c =
    let none = c.if-len-eq0.true in
    let counted = c.len.ensures in
    sym (ap (λ (v : CarriedView). v.items) c.self.view_is) ∙ ap placed (nil_from_length c.self.inside.items.items (omega arith))
