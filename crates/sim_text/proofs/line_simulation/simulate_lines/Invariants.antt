use Rattle.std.proofs.Common.{◌≡◌, ◌≤◌, ◌+◌, ◌-◌, List}
use Rattle.event_key.specs.declared.key.Key.{Key}
use Rattle.model_core.specs.declared.note.Note.{Note}
use Rattle.sim_io.specs.Taken.{Appends}
use Rattle.sim_io.specs.Texts.{record_lines}
use Rattle.sim_spec.specs.State.{State}
use Rattle.sim_text.specs.Rest.{BeginsAt}
use Rattle.sim_text.proofs.EventsSoFar.{ComesOn}
use Rattle.sim_text.proofs.line_simulation.simulate_lines.Given as goal

abbrev pub invariant-loop-stop : goal.invariant-loop-stop
invariant-loop-stop g l =
    let m = g.M.Model.meaning l.model in
    record {
      meaning : g.E.Engine.meaning l.engine ≡ m;
      terms : g.E.Engine.terms l.engine ≡ l.terms;
      done : List (Key × Note);
      comes : (from : State) → BeginsAt m l.terms g.E.Engine.stands_at l.fn.engine from
          → ComesOn m l.terms g.E.Engine.stands_at l.engine done l.number from;
      told : Appends (g.K.Sink.told l.fn.sink) (g.K.Sink.told l.sink) (record_lines m done);
      later : g.K.Sink.faults l.fn.sink ≤ g.K.Sink.faults l.sink;
      quiet : g.K.Sink.faults l.sink ≡ g.K.Sink.faults l.fn.sink;
    }

abbrev pub decreases-loop-stop : goal.decreases-loop-stop
decreases-loop-stop g l = (l.terms.limit + 3) - l.number
