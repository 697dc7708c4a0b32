use Rattle.std.proofs.Common.{get_or, rules, subst, sym}
use Rattle.steal_pool.specs.Workers.{AllReady, Can, HasDone}
use Rattle.steal_pool.proofs.HalfLemmas.{each-zip}
use Rattle.steal_pool.proofs.forking.work_all.Goals as goal

pub for_each_mut-requires-clause-accepts : goal.for_each_mut-requires-clause-accepts
for_each_mut-requires-clause-accepts g c κs within = λ i p below is. (
  (search rules, subst (λ worker. Can worker) (sym is) (c.requires.can i p.now below), subst (AllReady g.T.Turn.ready) (sym is) (c.requires.ready_each i p.now below)),
  search rules,
)

pub returns : goal.returns
returns g c =
    let R = HasDone g.T.Turn.turned in
    each-zip R c.args.all.now c.for_each_mut.new.s c.for_each_mut.auto.s (λ i d below.
    let change = (c.for_each_mut.ensures i d below).1 in
    subst (R (get_or c.args.all.now i d)) change.left (subst (λ x. R x change.after_call.now) change.argument_is change.call))
