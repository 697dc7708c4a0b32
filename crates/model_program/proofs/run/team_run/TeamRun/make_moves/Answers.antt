-- A world that isn't spent stands for a state.
use Rattle.std.proofs.Common.{sym, ap, ◌∙◌}
use Rattle.cycle_core.proofs.WhereWorldStands.{state-of}
use Rattle.model_program.proofs.run.team_run.TeamRun.make_moves.Goals as goal

pub make_next-requires-after_bounds : goal.make_next-requires-after_bounds
make_next-requires-after_bounds g c lifetimes outlives =
    let awake = sym (c.is_spent.ensures ∙ ap (λ w. w.is_spent) c.world.ensures) ∙ c.if-is_spent.false in
    state-of g.M.Model.meaning c.args.self.now.team.world awake (c.requires.at, c.requires.stands)
