use Rattle.cycle_core.proofs.WhereWorldStands.{can-cycle}
use Rattle.model_program.proofs.run.team_run.TeamRun.cycle_team.Goals as goal

-- where nothing has ended, a cycle can be done
pub cycle_by-requires-clause-can : goal.cycle_by-requires-clause-can
cycle_by-requires-clause-can g c lifetimes outlives =
    let on = c.requires.goes_on in
    can-cycle g.M.Model.meaning c.args.self.now.team.world on.at on.stands on.more

pub cycle-requires-after_bounds : goal.cycle-requires-after_bounds
cycle-requires-after_bounds g c lifetimes outlives =
    let on = c.requires.goes_on in
    can-cycle g.M.Model.meaning c.args.self.now.team.world on.at on.stands on.more
