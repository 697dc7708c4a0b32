use Rattle.std.proofs.Common.{◌≡◌, ◌-◌, ◌≤◌}
use Rattle.sim_io.specs.Taken.{Appends}
use Rattle.replications.specs.Families.{study_of}
use Rattle.replications.specs.Studies.{rows_between, stops_between, gravest}
use Rattle.replications.proofs.table.write_batches.Given as goal

abbrev pub invariant-loop-done : goal.invariant-loop-done
invariant-loop-done g l =
    let s = study_of g.S.Seeds.seeded g.S.Seeds.rows l.table.study.now in
    record {
      within : l.done ≤ l.table.count;
      written : Appends (g.K.Sink.told l.fn.out) (g.K.Sink.told l.out) (rows_between s 0 l.done);
      stops : l.worst ≡ gravest (stops_between s 0 l.done);
      later : g.K.Sink.faults l.fn.out ≤ g.K.Sink.faults l.out;
      quiet : g.K.Sink.faults l.out ≡ g.K.Sink.faults l.fn.out;
    }

abbrev pub decreases-loop-done : goal.decreases-loop-done
decreases-loop-done g l = l.table.count - l.done
