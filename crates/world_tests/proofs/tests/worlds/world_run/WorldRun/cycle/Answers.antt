use Rattle.std.proofs.Common.{sym, subst}
use Rattle.cycle_core.specs.Worlds.{WorldView, CanCycle}
use Rattle.cycle_core.proofs.WhereWorldStands.{can-cycle}
use Rattle.world_tests.proofs.tests.worlds.world_run.WorldRun.cycle.Goals as goal

pub cycle_alone-requires-after_bounds : goal.cycle_alone-requires-after_bounds
cycle_alone-requires-after_bounds g c lifetimes outlives =
    let P : WorldView _ → Type 0 = λ w. CanCycle (g.M.Model.meaning w.model) w in
    subst P (sym c.self.view_is) (can-cycle (g.M.Model.meaning) c.args.self.now c.requires.at c.requires.stands c.requires.more)
