use Rattle.std.proofs.Common.{sym, ◌∙◌}
use Rattle.cycle_core.proofs.WhereWorldStands.{can-cycle}
use Rattle.world_tests.proofs.tests.team_run.TeamRun.next.Goals as goal

pub cycle-requires-after_bounds : goal.cycle-requires-after_bounds
cycle-requires-after_bounds g c lifetimes outlives =
    let stands = c.self.invariant in
    can-cycle (g.M.Model.meaning) c.self.inside.team.world stands.0 stands.1 (sym (c.ended.ensures stands.0 stands.1) ∙ c.in-None.is)
