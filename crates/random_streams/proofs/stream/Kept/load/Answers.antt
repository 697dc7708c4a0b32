use Rattle.std.proofs.Common.{arith}
use Rattle.random_streams.proofs.RowLemmas.{AreWords-block}
use Rattle.random_streams.proofs.stream.Kept.load.Goals as goal

pub returns-then-not-self : goal.returns-then-not-self
returns-then-not-self c =
    AreWords-block c.args.seed c.args.object c.args.place c.block-self.result (omega arith) c.block-self.ensures
