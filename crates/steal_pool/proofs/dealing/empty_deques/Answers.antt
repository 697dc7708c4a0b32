use Rattle.std.proofs.Common.{All, ◌≡◌, [], arith, subst, sym}
use Rattle.std.proofs.lemmas.List.Elements.{All-push}
use Rattle.steal_pool.specs.Tallies.{tally, WHOLE}
use Rattle.steal_pool.proofs.dealing.empty_deques.Goals as goal

pub loop-preserved : goal.loop-preserved
loop-preserved g c =
    let before = c.loop.invariant in (
      (let pushed = c.push_reserved.ensures.len in omega (arith, before.0)),
      (let kept = c.push_reserved.ensures.capacity in omega (arith, before.1)),
      subst (All (λ deque. deque.knows ≡ tally WHOLE [] [])) (sym c.push_reserved.ensures.items)
          (All-push (λ deque. deque.knows ≡ tally WHOLE [] []) c.loop.deques.items c.in_ok-new.field-0 before.2 c.in_ok-new.ensures),
    )
