use Rattle.std.proofs.Common.{take}
use Rattle.std.specs.Prelude.{All, IsOk}
use Rattle.steal_pool.proofs.forking.answer_of.Given as goal

abbrev pub invariant-loop-worker : goal.invariant-loop-worker
invariant-loop-worker g l = All (λ worker. IsOk worker.answer) (take l.worker-index l.workers)
