use Rattle.std.proofs.Common.{◌∷◌, ◌++◌, [], ap, length, map, sym, ◌∙◌, append_assoc, arith}
use Rattle.std.proofs.lemmas.List.{map-append}
use Rattle.steal_pool.specs.Works.{item_in}
use Rattle.steal_pool.proofs.OrderLemmas.{nothing-left}
use Rattle.steal_pool.proofs.each.items_of.Goals as goal

pub loop-job-preserved : goal.loop-job-preserved
loop-job-preserved g c =
    let before = c.loop-job.invariant in (
      rw c.push_reserved.ensures.items (ap (λ l. l ++ c.in-Some.job.item ∷ []) before.0 ∙ sym (map-append item_in c.loop-job.yielded _)),
      append_assoc c.loop-job.yielded (c.in-Some.job ∷ []) c.next.new.self.rest.items ∙ ap (λ l. c.loop-job.yielded ++ l) (sym c.in-Some.ensures.steps.0) ∙ before.1,
      (let left = ap length c.in-Some.ensures.steps.0 in let pushed = c.push_reserved.ensures.len in let kept = c.push_reserved.ensures.capacity in omega (arith, before.2)),
    )

pub returns : goal.returns
returns g c =
    let none = c.in-None.ensures.steps.0 in
    c.loop-job.invariant.0 ∙ ap (map item_in) (nothing-left c.loop-job.yielded c.loop-job.job-iterator.rest.items c.args.jobs.items c.loop-job.invariant.1 (omega (arith, c.loop-job.job-iterator.rest.ok.0)))
