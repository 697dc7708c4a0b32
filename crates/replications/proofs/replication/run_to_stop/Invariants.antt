use Rattle.std.proofs.Common.{◌≡◌, ℕ, ◌+◌, ◌-◌, [], List, length}
use Rattle.sim_spec.specs.declared.bucket.Bucket.{Bucket}
use Rattle.sim_spec.specs.Cycles.{records_of_buckets}
use Rattle.sim_spec.specs.State.{initial_state}
use Rattle.sim_text.proofs.UnderWay.{IsUnderWay, SimulationLaws}
use Rattle.replications.proofs.replication.run_to_stop.Given as goal

abbrev pub invariant-loop-stop : goal.invariant-loop-stop
invariant-loop-stop g l =
    let m = g.M.Model.meaning l.model in
    record {
      model : l.engine.model ≡ l.model;
      terms : l.engine.terms ≡ l.replication.terms;
      so_far : List Bucket;
      laws : SimulationLaws m l.replication.terms (initial_state m);
      way : IsUnderWay m l.replication.terms (initial_state m) l.engine.standing so_far;
      numbered : l.cycles ≡ length so_far;
      kept : (first_tick : ℕ) → g.W.Rows.sums_up l.model first_tick l.fn.rows [] → g.W.Rows.sums_up l.model first_tick l.rows (records_of_buckets so_far);
    }

abbrev pub decreases-loop-stop : goal.decreases-loop-stop
decreases-loop-stop g l = (l.replication.terms.limit + 3) - l.cycles
