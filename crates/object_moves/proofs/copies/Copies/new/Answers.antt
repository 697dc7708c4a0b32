-- One copy more is the same.
use Rattle.std.proofs.Common.{◌≡◌, length, ◌∷◌, [], ap, ◌∙◌, arith}
use Rattle.std.specs.Arc.{arc_value}
use Rattle.std.proofs.lemmas.List.{length-append}
use Rattle.key_order.proofs.EachLemmas.{Each-append}
use Rattle.object_moves.proofs.copies.Copies.new.Goals as goal

pub loop-preserved : goal.loop-preserved
loop-preserved c =
    let items = c.in_ok-push.ensures.items in
    let copy = c.in_ok-copy.copy in
    let many = c.loop.invariant.0 in
    let long = ap length items ∙ length-append c.loop.more.items (copy ∷ []) in
    (omega arith, rw items (Each-append (λ a. arc_value a ≡ arc_value c.in_ok-one.one) c.loop.more.items (copy ∷ []) c.loop.invariant.1 (c.in_ok-copy.ensures.cases, tt)))
