use Rattle.std.proofs.Common.{ap, ◌∙◌}
use Rattle.steal_pool.proofs.RuleLemmas.{puts}
use Rattle.steal_pool.proofs.deque.Deque.put.Goals as goal

pub push_as-requires-clause-pushes : goal.push_as-requires-clause-pushes
push_as-requires-clause-pushes g c = puts _ _ c.args.task (ap (λ end. end.knows.parts) c.self.view_is ∙ c.requires)
