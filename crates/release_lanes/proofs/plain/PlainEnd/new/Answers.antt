use Rattle.std.proofs.Common.{◌≡◌, length, ◌∷◌, [], None, ap, ◌∙◌, refl, arith}
use Rattle.std.proofs.lemmas.List.{length-append}
use Rattle.std.proofs.lemmas.List.Elements.{All-push}
use Rattle.release_lanes.proofs.plain.PlainEnd.new.Goals as goal

pub loop-preserved : goal.loop-preserved
loop-preserved c =
    let items = c.in_ok-push.ensures.items in
    let many = c.loop.invariant.0 in
    let long = ap length items ∙ length-append c.loop.slots.items (None ∷ []) in
    (omega arith, rw items (All-push (λ slot. slot ≡ None) c.loop.slots.items None c.loop.invariant.1 refl))
