use Rattle.std.proofs.Common.{ap, arith, ◌∙◌, rules}
use Rattle.steal_pool.proofs.RuleLemmas.{takes}
use Rattle.steal_pool.proofs.DoesLemmas.{does-more, does-over, next-ready}
use Rattle.steal_pool.proofs.deque.Victim.rob.Goals as goal
use Rattle.steal_pool.proofs.deque.Victim.rob.Goals.{in-Success+in_ok-push-in-Success, in-Retry}

pub steal_as-requires-clause-takes : goal.steal_as-requires-clause-takes
steal_as-requires-clause-takes g c = takes _ _ (let parts = c.loop.invariant.does.parts in omega arith)

pub run-requires-after_bounds : goal.run-requires-after_bounds
run-requires-after_bounds g c κs within =
    next-ready g.T.Turn.turned g.T.Turn.ready _ _ _ _ _ c.in-Success.task c.loop.invariant.does c.requires.ready c.in-Success.ensures.rule

pub loop-preserved : goal.loop-preserved
loop-preserved g c = record {
  deque = search rules;
  pass = search rules;
  does = elim c.match-steal_as.branch [
    | in-Success+in_ok-push-in-Success w ↦
        does-more g.T.Turn.turned _ _ _ _ _ _ w.in-Success.task w.run.result c.loop.invariant.does w.in-Success.ensures.rule w.run.ensures.number w.run.ensures.turned
        (ap (λ v. v.items) w.done-is ∙ w.in_ok-push-in-Success.ensures.items)
    | in-Retry w ↦ does-over g.T.Turn.turned _ _ _ _ _ _ w.in-Retry.ensures.rule.0 (ap (λ v. v.items) w.done-is) c.loop.invariant.does
  ];
}
