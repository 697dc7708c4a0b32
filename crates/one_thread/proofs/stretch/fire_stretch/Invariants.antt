use Rattle.std.proofs.Common.{◌≡◌, ◌-◌, [], List}
use Rattle.event_key.specs.declared.key.Key.{Key}
use Rattle.model_core.specs.declared.note.Note.{Note}
use Rattle.sim_spec.specs.Run.{Leads}
use Rattle.sim_spec.specs.State.{Lawful}
use Rattle.tick_queue.specs.Queues.{IsSettled}
use Rattle.one_thread.specs.Engines.{state_of}
use Rattle.one_thread.specs.Telling.{TellsAll}
use Rattle.one_thread.specs.Turns.{IsOpen}
use Rattle.one_thread.proofs.stretch.fire_stretch.Given as goal

abbrev pub invariant-loop-key : goal.invariant-loop-key
invariant-loop-key g l =
    let m = g.M.Model.meaning l.model in
    record {
      so_far : List (Key × Note);
      leads : Leads m l.terms (state_of l.fn.course) so_far (state_of l.course);
      told : TellsAll (g.T.Recorder.holds m) l.fn.into so_far l.into;
      lawful : Lawful m l.terms (state_of l.course);
      settled : IsSettled l.course.queue;
      begun : so_far ≡ [] → IsOpen l.course;
    }

abbrev pub decreases-loop-key : goal.decreases-loop-key
decreases-loop-key g l = l.terms.limit - l.course.count
