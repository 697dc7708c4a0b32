use Rattle.std.proofs.Common.{ap, arith}
use Rattle.steal_pool.proofs.RuleLemmas.{forks}
use Rattle.steal_pool.proofs.deque.Deque.victim.Goals as goal

pub another-pass-requires : goal.another-pass-requires
another-pass-requires g c = forks _ _ (omega (arith, ap (λ end. end.knows.parts) c.self.view_is))
