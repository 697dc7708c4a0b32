use Rattle.std.proofs.Common.{◌≡◌, ◌≤◌, ◌+◌, ◌-◌, List, length}
use Rattle.sim_io.specs.Taken.{Appends}
use Rattle.sim_spec.specs.declared.bucket.Bucket.{Bucket}
use Rattle.sim_spec.specs.State.{State}
use Rattle.sim_text.specs.Rest.{BeginsAt, CanBeTold}
use Rattle.sim_text.specs.Reports.{IsReportOf}
use Rattle.sim_text.specs.SoFar.{lines_so_far}
use Rattle.sim_text.proofs.UnderWay.{RunsOn}
use Rattle.sim_text.proofs.simulation.simulate.Given as goal

abbrev pub invariant-loop-stop : goal.invariant-loop-stop
invariant-loop-stop g l =
    let m = g.M.Model.meaning l.model in
    record {
      meaning : g.E.Engine.meaning l.engine ≡ m;
      terms : g.E.Engine.terms l.engine ≡ l.terms;
      so_far : List Bucket;
      runs : (from : State) → BeginsAt m l.terms g.E.Engine.stands_at l.fn.engine from → CanBeTold m l.fn.telling from
          → RunsOn m l.terms g.E.Engine.stands_at l.engine so_far from;
      numbered : l.number ≡ length so_far + 1;
      kept : IsReportOf (g.L.Tally.sums_up l.model) l.fn.telling so_far l.report;
      told : Appends (g.K.Sink.told l.fn.sink) (g.K.Sink.told l.sink) (lines_so_far m l.fn.telling so_far);
      later : g.K.Sink.faults l.fn.sink ≤ g.K.Sink.faults l.sink;
      quiet : g.K.Sink.faults l.sink ≡ g.K.Sink.faults l.fn.sink;
    }

abbrev pub decreases-loop-stop : goal.decreases-loop-stop
decreases-loop-stop g l = (l.terms.limit + 3) - l.number
