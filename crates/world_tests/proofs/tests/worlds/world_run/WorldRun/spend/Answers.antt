use Rattle.std.proofs.Common.{ap}
use Rattle.cycle_core.proofs.WhereWorldStands.{spent-there}
use Rattle.world_tests.proofs.tests.worlds.world_run.WorldRun.spend.Goals as goal

pub invariant_of-self : goal.invariant_of-self
invariant_of-self g c = spent-there (g.M.Model.meaning) c.spend.new.self (ap (λ w. w.is_spent) c.spend.ensures)
