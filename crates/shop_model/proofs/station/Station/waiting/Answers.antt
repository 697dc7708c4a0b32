use Rattle.std.proofs.Common.{arith}
use Rattle.shop_model.specs.LevelSums.{sum_more}
use Rattle.shop_model.specs.Stations.{waiting_at}
use Rattle.shop_model.proofs.station.Station.waiting.Goals as goal

pub loop-level-preserved : goal.loop-level-preserved
loop-level-preserved c =
    let more = sum_more (λ level. waiting_at c.args.cells.now.contents level) c.loop-level.level in
    record {
      sum = omega (arith, more, c.waiting_at.ensures, c.loop-level.invariant.sum);
      bounded = omega (arith, c.loop-level.invariant.bounded);
    }
