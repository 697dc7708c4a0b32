use Rattle.steal_pool.proofs.GatherLemmas.{Returning}
use Rattle.steal_pool.proofs.gathering.give_all_back.Given as goal

abbrev pub invariant-loop-place : goal.invariant-loop-place
invariant-loop-place g l = Returning l.place l.fn.workers.items l.workers.items
