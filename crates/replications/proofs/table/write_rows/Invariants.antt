use Rattle.std.proofs.Common.{◌≡◌, ℕ, ◌≤◌, ◌++◌, List}
use Rattle.sim_io.specs.Taken.{Appends}
use Rattle.sim_spec.specs.declared.stop.Stop.{Stop}
use Rattle.replications.specs.Studies.{StudyOf, AreDone, rows_between, stops_between, gravest}
use Rattle.replications.proofs.table.write_rows.Given as goal

abbrev pub invariant-loop-job : goal.invariant-loop-job
invariant-loop-job g l = record {
  written : (s : StudyOf) (number : ℕ) → AreDone s number l.jobs → Appends (g.K.Sink.told l.fn.out) (g.K.Sink.told l.out) (rows_between s number l.job-index);
  stops : (s : StudyOf) (number : ℕ) (before : List Stop) → AreDone s number l.jobs → l.fn.worst ≡ gravest before → l.worst ≡ gravest (before ++ stops_between s number l.job-index);
  later : g.K.Sink.faults l.fn.out ≤ g.K.Sink.faults l.out;
  quiet : g.K.Sink.faults l.out ≡ g.K.Sink.faults l.fn.out;
}
