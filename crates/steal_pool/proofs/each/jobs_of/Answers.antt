use Rattle.std.proofs.Common.{◌≡◌, ◌∷◌, ◌++◌, [], ap, length, refl, sym, ◌∙◌, append_assoc, arith}
use Rattle.std.proofs.lemmas.List.{map-append}
use Rattle.std.proofs.lemmas.List.Elements.{All-push}
use Rattle.steal_pool.specs.Works.{item_in}
use Rattle.steal_pool.proofs.OrderLemmas.{nothing-left}
use Rattle.steal_pool.proofs.each.jobs_of.Goals as goal

pub loop-item-preserved : goal.loop-item-preserved
loop-item-preserved g c =
    let before = c.loop-item.invariant in (
      rw c.push_reserved.ensures.items (map-append item_in c.loop-item.jobs.items _ ∙ ap (λ l. l ++ c.in-Some.item ∷ []) before.0),
      rw c.push_reserved.ensures.items (All-push (λ job. job.work.now ≡ c.args.work.now) c.loop-item.jobs.items _ before.1 refl),
      append_assoc c.loop-item.yielded (c.in-Some.item ∷ []) c.next.new.self.rest.items ∙ ap (λ l. c.loop-item.yielded ++ l) (sym c.in-Some.ensures.steps.0) ∙ before.2,
      (let left = ap length c.in-Some.ensures.steps.0 in let pushed = c.push_reserved.ensures.len in let kept = c.push_reserved.ensures.capacity in omega (arith, before.3)),
    )

pub returns-clause-items : goal.returns-clause-items
returns-clause-items g c =
    let none = c.in-None.ensures.steps.0 in
    c.loop-item.invariant.0 ∙ nothing-left c.loop-item.yielded c.loop-item.item-iterator.rest.items c.args.items.items c.loop-item.invariant.2 (omega (arith, c.loop-item.item-iterator.rest.ok.0))

pub returns-clause-work : goal.returns-clause-work
returns-clause-work g c = c.loop-item.invariant.1
