use Rattle.std.proofs.Common.{sym, ◌∙◌}
use Rattle.cycle_core.proofs.WhereWorldStands.{can-cycle}
use Rattle.world_tests.proofs.tests.team_run.TeamRun.next_by_two.Goals as goal

pub cycle_by-requires-clause-can : goal.cycle_by-requires-clause-can
cycle_by-requires-clause-can g c lifetimes outlives =
    let stands = c.self.invariant in
    can-cycle (g.M.Model.meaning) c.self.inside.team.world stands.0 stands.1 (sym (c.ended.ensures stands.0 stands.1) ∙ c.in-None.is)
