use Rattle.std.proofs.Common.{arith}
use Rattle.random_streams.proofs.delay_law.DelayLaw.check.Goals as goal

pub overflow_add-len : goal.overflow_add-len
overflow_add-len c = omega (arith, c.len-then-are_values-2.ensures.few)
