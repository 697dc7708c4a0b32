use Rattle.std.proofs.Common.{refl, arith}
use Rattle.rand_chacha.specs.Block.{column_round}
use Rattle.random_streams.proofs.block.column_round.Goals as goal

pub returns : goal.returns
unfolding column_round
returns c =
    rw (
      ← c.quarter_round.ensures 0 (omega arith),
      ← c.quarter_round.ensures 1 (omega arith),
      ← c.quarter_round.ensures 2 (omega arith),
      ← c.quarter_round.ensures 3 (omega arith),
    ) refl
