use Rattle.std.proofs.Common.{◌≡◌, ◌++◌, take}
use Rattle.sim_stats.specs.Totals.{lines_of_sums}
use Rattle.sim_stats.proofs.tally.TotalsTally.put.Given as goal

abbrev pub invariant-loop-object : goal.invariant-loop-object
invariant-loop-object g l = l.into.items ≡ l.fn.into.items ++ lines_of_sums (g.M.Model.meaning l.model) 0 (take l.object l.self.objects)
