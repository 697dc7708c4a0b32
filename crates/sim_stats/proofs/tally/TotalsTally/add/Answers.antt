use Rattle.std.proofs.Common.{arith}
use Rattle.sim_stats.proofs.TotalsLemmas.{totals_of-parts}
use Rattle.sim_stats.proofs.tally.TotalsTally.add.Goals as goal

pub add-requires-clause-object : goal.add-requires-clause-object
add-requires-clause-object g c =
    let parts = totals_of-parts c.args.self.now (g.M.Model.meaning c.args._model.now).objects c.requires.0 c.requires.1 in
    omega (arith, parts.0, c.requires.2.object)

pub add-requires-clause-time : goal.add-requires-clause-time
add-requires-clause-time g c =
    let parts = totals_of-parts c.args.self.now (g.M.Model.meaning c.args._model.now).objects c.requires.0 c.requires.1 in
    omega (arith, parts.2, c.requires.2.in_time)

pub add-requires-clause-room : goal.add-requires-clause-room
add-requires-clause-room g c =
    let parts = totals_of-parts c.args.self.now (g.M.Model.meaning c.args._model.now).objects c.requires.0 c.requires.1 in
    omega (arith, parts.1, c.requires.2.room)
