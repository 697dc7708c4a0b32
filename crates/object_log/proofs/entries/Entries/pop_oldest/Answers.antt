-- The newer ones are turned, so that their oldest lies on top.
use Rattle.std.proofs.Common.{◌≡◌, ◌∷◌, ◌++◌, length, sym, ap, ◌∙◌, arith}
use Rattle.std.specs.Prelude.{reverse}
use Rattle.object_log.specs.Rows.{PileView}
use Rattle.object_log.proofs.PartLemmas.{turned-oldest}
use Rattle.object_log.proofs.entries.Entries.pop_oldest.Goals as goal

pub returns : goal.returns
returns c =
    let early = c.self.inside.early.done in
    let late = c.self.inside.late.done in
    let none : length early ≡ 0 = omega arith in
    let turned = sym (ap (λ (p : PileView). reverse p.done) c.swap.ensures.x_after) ∙ sym c.turn.ensures ∙ c.pop-2.ensures in
    sym (ap (λ (v : PileView). v.done) c.self.view_is)
    ∙ turned-oldest early late c.pop-2.new.self.done c.pop-2.result none turned
    ∙ ap (λ (p : PileView). c.pop-2.result ∷ (reverse c.pop-2.new.self.done ++ p.done)) (sym c.swap.ensures.y_after)
