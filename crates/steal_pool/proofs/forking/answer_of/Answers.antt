use Rattle.std.proofs.Common.{All, arith, subst}
use Rattle.std.specs.Prelude.{IsOk}
use Rattle.std.proofs.lemmas.List.{take_all}
use Rattle.steal_pool.proofs.forking.answer_of.Goals as goal

pub returns : goal.returns
returns g c = subst (All (λ worker. IsOk worker.answer)) (take_all c.loop-worker.worker-index c.args.workers.now (omega arith)) c.loop-worker.invariant
