use Rattle.std.proofs.Common.{◌≡◌, ◌≤◌, List, length}
use Rattle.sim_io.specs.Taken.{Appends}
use Rattle.sim_spec.specs.declared.bucket.Bucket.{Bucket}
use Rattle.sim_spec.specs.Cycles.{records_of_buckets}
use Rattle.sim_spec.specs.HorizonLaws.{BucketLaw}
use Rattle.sim_spec.specs.Laws.{NextLawful}
use Rattle.sim_spec.specs.State.{State}
use Rattle.sim_text.specs.Rest.{BeginsAt}
use Rattle.sim_io.specs.Texts.{record_lines}
use Rattle.sim_text.proofs.First.{StandsAfter}
use Rattle.sim_text.proofs.first_cycles.simulate_first.Given as goal

abbrev pub invariant-loop-done : goal.invariant-loop-done
invariant-loop-done g l =
    let m = g.M.Model.meaning l.model in
    record {
      next : NextLawful m l.terms;
      buckets : BucketLaw m l.terms;
      meaning : g.E.Engine.meaning l.engine ≡ m;
      terms : g.E.Engine.terms l.engine ≡ l.terms;
      so_far : List Bucket;
      first : (from : State) → BeginsAt m l.terms g.E.Engine.stands_at l.fn.engine from
          → StandsAfter m l.terms g.E.Engine.stands_at l.engine so_far from;
      numbered : l.done ≡ length so_far;
      told : Appends (g.K.Sink.told l.fn.sink) (g.K.Sink.told l.sink) (record_lines m (records_of_buckets so_far));
      later : g.K.Sink.faults l.fn.sink ≤ g.K.Sink.faults l.sink;
      quiet : g.K.Sink.faults l.sink ≡ g.K.Sink.faults l.fn.sink;
    }
