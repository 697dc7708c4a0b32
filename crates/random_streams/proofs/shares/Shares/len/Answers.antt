use Rattle.std.proofs.Common.{arith}
use Rattle.random_streams.proofs.ShareLemmas.{shares_len}
use Rattle.random_streams.proofs.shares.Shares.len.Goals as goal

pub returns-clause-few : goal.returns-clause-few
returns-clause-few c = omega (arith, (shares_len c.self.inside.weights.items c.self.invariant.0).1)
