use Rattle.std.proofs.Common.{All, arith, refl, subst, sym}
use Rattle.std.specs.Prelude.{IsNone, None}
use Rattle.std.proofs.lemmas.List.Elements.{All-push}
use Rattle.steal_pool.proofs.ordering.empty_places.Goals as goal

pub loop-preserved : goal.loop-preserved
loop-preserved g c =
    let before = c.loop.invariant in (
      (let pushed = c.push_reserved.ensures.len in omega (arith, before.0)),
      (let kept = c.push_reserved.ensures.capacity in omega (arith, before.1)),
      subst (All (λ place. IsNone place)) (sym c.push_reserved.ensures.items) (All-push (λ place. IsNone place) c.loop.places.items None before.2 refl),
    )
