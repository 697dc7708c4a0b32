-- A cycle of the nodes is one of the run, which tells where they stand then.
use Rattle.std.proofs.Common.{sym, ◌∙◌, subst}
use Rattle.node_team.specs.Handings.{AreWorkers}
use Rattle.node_team.specs.Teams.{TeamView}
use Rattle.sim_spec.specs.Standing.{IsCountAt}
use Rattle.cycle_core.specs.Standings.{GoesOn, HasCycled}
use Rattle.model_program.proofs.run.team_run.TeamRun.cycle.Goals as goal

pub move_and_cycle-bucket-requires-clause-goes_on : goal.move_and_cycle-bucket-requires-clause-goes_on
move_and_cycle-bucket-requires-clause-goes_on g c lifetimes outlives =
    subst (λ (t : TeamView g.row.M.Denot). GoesOn g.M.Model.meaning t.world) (sym c.reuse_room.ensures.team) c.requires.goes_on

pub move_and_cycle-bucket-requires-clause-workers : goal.move_and_cycle-bucket-requires-clause-workers
move_and_cycle-bucket-requires-clause-workers g c lifetimes outlives = subst AreWorkers (sym c.reuse_room.ensures.workers) c.requires.workers

pub returns-clause-cycled : goal.returns-clause-cycled
returns-clause-cycled g c = λ at stands more.
    let new = c.move_and_cycle-bucket.new.self.team.world in
    let cycled = subst (λ (t : TeamView g.row.M.Denot). HasCycled g.M.Model.meaning t.world c.move_and_cycle-bucket.result new) c.reuse_room.ensures.team c.move_and_cycle-bucket.ensures.cycled in
    let done = cycled at stands.0 more in
    record {
      left = done.left;
      stands = (
        done.stands,
        record {
          ended = c.new.ensures.ended ∙ c.ended.ensures done.left done.stands;
          count = subst (λ n. IsCountAt done.left n) (sym c.new.ensures.count) (c.count.ensures.at done.left done.stands);
        },
        subst AreWorkers (sym (c.move_and_cycle-bucket.ensures.workers ∙ c.reuse_room.ensures.workers)) c.requires.workers,
      );
      gives = done.gives;
      same_meaning = done.same_meaning;
      same_terms = done.same_terms;
    }
