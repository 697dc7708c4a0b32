use Rattle.std.proofs.Common.{List, arith, ◌∙◌, ap, sym, ◌++◌, ◌∷◌, []}
use Rattle.std.proofs.lemmas.List.FromFn.{map-range_with_len_more}
use Rattle.queue_models.specs.Objects.{Item}
use Rattle.queue_models.specs.Rings.{ring_object}
use Rattle.queue_models.proofs.rings.ring_objects.Goals as goal

pub loop-number-preserved : goal.loop-number-preserved
loop-number-preserved c =
    let n = c.args.n in
    let i = c.loop-number.number in
    c.in_ok-push.ensures.items
    ∙ ap (λ (item : Item). c.loop-number.objects.items ++ item ∷ []) c.in_ok-ring_object.ensures
    ∙ ap (λ (before : List Item). before ++ ring_object n i ∷ []) c.loop-number.invariant
    ∙ sym (map-range_with_len_more (ring_object n) 0 i i (omega arith))
