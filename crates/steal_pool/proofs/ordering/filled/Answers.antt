use Rattle.std.proofs.Common.{◌++◌, ◌∷◌, [], ◌∙◌, ap, append_assoc, arith, length, map, sym}
use Rattle.std.proofs.lemmas.List.{map-append}
use Rattle.std.specs.Prelude.{Some, slice_get}
use Rattle.std.proofs.lemmas.Option.{same_Some, slice_get_within}
use Rattle.steal_pool.proofs.OrderLemmas.{at-middle, nothing-left}
use Rattle.steal_pool.proofs.ordering.filled.Goals as goal

pub unreachable-requires : goal.unreachable-requires
unreachable-requires g c =
    let whole = ap (λ l. c.loop-place.yielded ++ l) (sym c.in-Some.ensures.steps.0) ∙ c.loop-place.invariant.1 in
    let at = ap (λ l. slice_get l (length c.loop-place.yielded)) (sym whole) ∙ at-middle c.loop-place.yielded c.in-Some.place c.next.new.self.rest.items in
    let there = c.requires (length c.loop-place.yielded) (slice_get_within c.args.places.items (length c.loop-place.yielded) c.in-Some.place at) in
    c.in_default.not-Some there.0 (same_Some c.in-Some.place (Some there.0) (sym at ∙ there.1))

pub loop-place-preserved : goal.loop-place-preserved
loop-place-preserved g c =
    let before = c.loop-place.invariant in
    let place = c.in-Some.place in
    let turn = c.in-Some-place.turn in
    let steps = c.in-Some.ensures.steps in (
      ap (map Some) c.push_reserved.ensures.items ∙ map-append Some c.loop-place.turns.items (turn ∷ []) ∙ ap (λ l. l ++ Some turn ∷ []) before.0 ∙ ap (λ p. c.loop-place.yielded ++ p ∷ []) (sym c.in-Some-place.is),
      append_assoc c.loop-place.yielded (place ∷ []) c.next.new.self.rest.items ∙ ap (λ l. c.loop-place.yielded ++ l) (sym steps.0) ∙ before.1,
      (let left = ap length steps.0 in let pushed = c.push_reserved.ensures.len in let kept = c.push_reserved.ensures.capacity in omega (arith, before.2)),
    )

pub returns : goal.returns
returns g c =
    let none = c.in-None.ensures.steps.0 in
    c.loop-place.invariant.0 ∙ nothing-left c.loop-place.yielded c.loop-place.place-iterator.rest.items c.args.places.items c.loop-place.invariant.1 (omega (arith, c.loop-place.place-iterator.rest.ok.0))
