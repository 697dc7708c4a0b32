use Rattle.steal_pool.specs.Workers.{HasEnded}
use Rattle.steal_pool.proofs.PlaceLemmas.{Upto}
use Rattle.steal_pool.proofs.gathering.do_rest.Given as goal

abbrev pub invariant-loop-worker : goal.invariant-loop-worker
invariant-loop-worker g l = Upto (HasEnded g.T.Turn.turned) l.worker-index l.fn.workers l.workers
