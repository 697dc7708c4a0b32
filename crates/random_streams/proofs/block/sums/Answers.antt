use Rattle.std.proofs.Common.{arith}
use Rattle.random_streams.proofs.RowLemmas.{below_sixteen}
use Rattle.random_streams.proofs.block.sums.Goals as goal

pub returns : goal.returns
returns c =
    let a = c.add.ensures in
    let b = c.add-2.ensures in
    let d = c.add-3.ensures in
    let e = c.add-4.ensures in
    below_sixteen _
    (a 0 (omega arith)) (a 1 (omega arith)) (a 2 (omega arith)) (a 3 (omega arith))
    (b 0 (omega arith)) (b 1 (omega arith)) (b 2 (omega arith)) (b 3 (omega arith))
    (d 0 (omega arith)) (d 1 (omega arith)) (d 2 (omega arith)) (d 3 (omega arith))
    (e 0 (omega arith)) (e 1 (omega arith)) (e 2 (omega arith)) (e 3 (omega arith))
