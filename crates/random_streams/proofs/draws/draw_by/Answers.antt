use Rattle.std.proofs.Common.{arith}
use Rattle.random_streams.proofs.Bounds.{greatest_value-le}
use Rattle.random_streams.proofs.draws.draw_by.Goals as goal

pub returns-clause-bounded : goal.returns-clause-bounded
returns-clause-bounded c = omega (arith, greatest_value-le c.args.law.now c.requires)
