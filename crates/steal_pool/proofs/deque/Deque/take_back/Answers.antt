use Rattle.std.proofs.Common.{ap, arith}
use Rattle.steal_pool.proofs.RuleLemmas.{merges}
use Rattle.steal_pool.proofs.deque.Deque.take_back.Goals as goal

pub absorb-requires-clause-rule : goal.absorb-requires-clause-rule
absorb-requires-clause-rule g c = merges _ _ _ _ (omega (arith, ap (λ end. end.knows.parts) c.self.view_is))
