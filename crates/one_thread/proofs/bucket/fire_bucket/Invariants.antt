use Rattle.std.proofs.Common.{◌-◌, List}
use Rattle.event_key.specs.declared.key.Key.{Key}
use Rattle.model_core.specs.declared.note.Note.{Note}
use Rattle.one_thread.specs.Engines.{state_of}
use Rattle.one_thread.specs.Telling.{TellsAll}
use Rattle.one_thread.proofs.UnderWay.{UnderWay}
use Rattle.one_thread.proofs.bucket.fire_bucket.Given as goal

abbrev pub invariant-loop-course : goal.invariant-loop-course
invariant-loop-course g l =
    let m = g.M.Model.meaning l.model in
    record {
      so_far : List (Key × Note);
      way : UnderWay m l.terms (state_of l.fn.course) so_far l.course;
      told : TellsAll (g.T.Recorder.holds m) l.fn.into so_far l.into;
    }

abbrev pub decreases-loop-course : goal.decreases-loop-course
decreases-loop-course g l = l.terms.limit - l.course.count
