use Rattle.std.proofs.Common.{◌≡◌, length}
use Rattle.steal_pool.specs.Workers.{HasWorked}
use Rattle.steal_pool.proofs.worker.Worker.work.Given as goal

abbrev pub invariant-loop-step : goal.invariant-loop-step
invariant-loop-step g l = record {
  worked : HasWorked g.T.Turn.turned l.fn.self l.self;
  count : l.count ≡ length l.self.victims.items;
}
