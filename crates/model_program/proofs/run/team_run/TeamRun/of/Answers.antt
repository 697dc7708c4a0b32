-- The run tells what its world tells.
use Rattle.std.proofs.Common.{subst, sym, ◌∙◌}
use Rattle.sim_spec.specs.Standing.{IsCountAt}
use Rattle.cycle_core.specs.Standings.{WorldStandsAt}
use Rattle.model_program.proofs.run.team_run.TeamRun.of.Goals as goal

pub returns-clause-told : goal.returns-clause-told
returns-clause-told g c at standing =
    let here = subst (λ w. WorldStandsAt g.M.Model.meaning w at) (sym c.in_ok-team.ensures.world) standing in (
      here,
      record { ended = c.new-told.ensures.ended ∙ c.ended.ensures at here; count = subst (IsCountAt at) (sym c.new-told.ensures.count) (c.count.ensures.at at here) },
      c.requires.spread.2,
    )
