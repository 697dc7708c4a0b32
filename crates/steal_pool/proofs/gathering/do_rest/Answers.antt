use Rattle.std.proofs.Common.{All, ap, add-one, get_or, arith, subst, sym}
use Rattle.std.proofs.lemmas.List.{get_or_default}
use Rattle.steal_pool.specs.Workers.{HasEnded, own_mark}
use Rattle.steal_pool.proofs.PlaceLemmas.{upto-more, upto-next, upto-all}
use Rattle.steal_pool.proofs.WorkerLemmas.{at-place}
use Rattle.steal_pool.proofs.gathering.do_rest.Goals as goal

pub empty-requires-clause-part : goal.empty-requires-clause-part
empty-requires-clause-part g c κs within =
    let same = upto-next (HasEnded g.T.Turn.turned) c.loop-worker.worker-index c.args.workers.now c.loop-worker.workers c.worker-item.result c.loop-worker.invariant in
    let whole = c.requires.whole c.loop-worker.worker-index c.worker-item.result (omega arith) in
    omega (arith, ap (λ worker. worker.deque.knows.parts) same)

pub empty-requires-clause-ready : goal.empty-requires-clause-ready
empty-requires-clause-ready g c κs within =
    let same = upto-next (HasEnded g.T.Turn.turned) c.loop-worker.worker-index c.args.workers.now c.loop-worker.workers c.worker-item.result c.loop-worker.invariant in
    let all = at-place own_mark (λ one. All (λ task. g.T.Turn.ready task.turn) one.put) c.args.workers.now c.loop-worker.worker-index (get_or c.args.workers.now c.loop-worker.worker-index c.worker-item.result) (omega arith)
    (get_or_default c.args.workers.now c.loop-worker.worker-index c.worker-item.result (get_or c.args.workers.now c.loop-worker.worker-index c.worker-item.result) (omega arith)) c.requires.ready in
    subst (λ worker. All (λ task. g.T.Turn.ready task.turn) worker.deque.knows.put) (sym same) all

pub loop-worker-preserved : goal.loop-worker-preserved
loop-worker-preserved g c =
    rw add-one (upto-more (HasEnded g.T.Turn.turned) c.loop-worker.worker-index c.args.workers.now c.loop-worker.workers c.worker-item.result _ c.loop-worker.invariant (omega arith)
    (record { does = c.in_ok-empty.ensures.does; all = c.in_ok-empty.ensures.emptied }))

pub returns : goal.returns
returns g c = upto-all (HasEnded g.T.Turn.turned) c.loop-worker.worker-index c.args.workers.now c.loop-worker.workers (omega arith) c.loop-worker.invariant
