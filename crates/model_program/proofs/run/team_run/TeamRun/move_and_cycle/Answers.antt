-- The moves change nothing of where the world stands, so the cycle after them is the next one.
use Rattle.std.proofs.Common.{sym, subst}
use Rattle.std.proofs.lemmas.Result.{err_from_is_err_and}
use Rattle.std.specs.Prelude.{Result}
use Rattle.delta_exchange.specs.declared.memory.OutOfMemory.{OutOfMemory}
use Rattle.sim_spec.specs.declared.bucket.Bucket.{Bucket}
use Rattle.cycle_core.specs.Standings.{HasCycled}
use Rattle.cycle_core.proofs.SpentCycles.{spent-cycled}
use Rattle.cycle_core.proofs.MovedCycles.{cycled-from}
use Rattle.model_program.proofs.run.team_run.TeamRun.move_and_cycle.Goals as goal

pub returns-in_err-make_moves-clause-cycled : goal.returns-in_err-make_moves-clause-cycled
returns-in_err-make_moves-clause-cycled g c =
    let old = c.args.self.now.team.world in
    let new = c.make_moves.new.self.team.world in
    let refused = err_from_is_err_and c.from_residual.result c.from_residual.ensures.1 in
    let P : Result Bucket OutOfMemory → Type 0 = λ answer. HasCycled g.M.Model.meaning old answer new in
    subst P (sym refused.1) (spent-cycled g.M.Model.meaning old new c.make_moves.ensures.model c.make_moves.ensures.terms refused.0 c.in_err-make_moves.ensures.spent)

pub returns-clause-cycled : goal.returns-clause-cycled
returns-clause-cycled g c =
    let old = c.args.self.now.team.world in
    let moved = c.make_moves.new.self.team.world in
    let new = c.cycle_team.new.self.team.world in
    cycled-from g.M.Model.meaning old moved c.make_moves.ensures.model c.make_moves.ensures.terms c.in_ok-make_moves.ensures.at new c.cycle_team.result c.cycle_team.ensures.cycled
