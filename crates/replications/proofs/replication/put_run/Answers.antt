-- The rows sum up all records of the run.
use Rattle.std.proofs.Common.{◌∙◌, ◌++◌, refl, ap}
use Rattle.run_tally.specs.Tallies.{AreOfRun}
use Rattle.sim_spec.specs.Run.{run}
use Rattle.sim_spec.specs.State.{initial_state}
use Rattle.replications.specs.declared.rows.RunEnd.{RunEnd}
use Rattle.replications.specs.Ends.{rows_of_run}
use Rattle.replications.proofs.replication.put_run.Goals as goal

pub run_to_stop-requires-clause-rows : goal.run_to_stop-requires-clause-rows
run_to_stop-requires-clause-rows g c κs within = (c.args.replication.now.first_tick, c.in_ok-rows.ensures)

pub put-requires : goal.put-requires
put-requires g c = record {
  first_tick = c.args.replication.now.first_tick;
  records = (run (g.M.Model.meaning c.args.model.now) c.args.replication.now.terms (initial_state (g.M.Model.meaning c.args.model.now))).records;
  summed = c.in_ok-end.ensures.rows c.args.replication.now.first_tick c.in_ok-rows.ensures;
  of_run = record { are_all = refl; stops_so = ap (λ (e : RunEnd). e.stop) c.in_ok-end.ensures.end };
}

pub returns-clause-rows : goal.returns-clause-rows
unfolding rows_of_run
returns-clause-rows g c =
    let m = g.M.Model.meaning c.args.model.now in
    let records = (run m c.args.replication.now.terms (initial_state m)).records in
    let all : AreOfRun m c.args.replication.now.terms records c.in_ok-end.end.stop = record { are_all = refl; stops_so = ap (λ (e : RunEnd). e.stop) c.in_ok-end.ensures.end } in
    c.in_ok-put.ensures c.args.replication.now.first_tick records (c.in_ok-end.ensures.rows c.args.replication.now.first_tick c.in_ok-rows.ensures) all
    ∙ ap (λ (end : RunEnd). c.args.into.now.items ++ g.W.Rows.rows_of c.args.model.now c.args.replication.now.first_tick c.args.replication.now.terms end records) c.in_ok-end.ensures.end
