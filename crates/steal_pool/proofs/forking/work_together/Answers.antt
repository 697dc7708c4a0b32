use Rattle.std.specs.Prelude.{All, IsOk}
use Rattle.std.proofs.Common.{arith, map}
use Rattle.std.proofs.lemmas.List.{length-map}
use Rattle.steal_pool.specs.Workers.{own_mark}
use Rattle.steal_pool.proofs.TogetherLemmas.{hired-can, have-worked, on-ok}
use Rattle.steal_pool.proofs.forking.work_together.Goals as goal

pub work_all-requires-after_bounds : goal.work_all-requires-after_bounds
work_all-requires-after_bounds g c κs within = hired-can g.T.Turn.ready (map own_mark c.args.workers.now) c.args.workers.now c.requires.hired (omega (arith, length-map c.args.workers.now own_mark, c.requires.few)) c.requires.ready

pub returns : goal.returns
returns g c = on-ok c.answer_of.result (All (λ worker. IsOk worker.answer) c.work_all.new.all) c.answer_of.ensures
    (have-worked g.T.Turn.turned (map own_mark c.args.workers.now) c.args.workers.now c.work_all.new.all c.requires.hired c.work_all.ensures)
