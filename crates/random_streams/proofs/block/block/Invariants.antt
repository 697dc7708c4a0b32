use Rattle.std.proofs.Common.{◌≡◌}
use Rattle.rand_chacha.specs.Block.{double_rounds}
use Rattle.random_streams.specs.Rows.{state_of}
use Rattle.random_streams.proofs.block.block.Given as goal

abbrev pub invariant-loop-round : goal.invariant-loop-round
invariant-loop-round l = state_of l.rows ≡ double_rounds l._round (state_of l.first)
