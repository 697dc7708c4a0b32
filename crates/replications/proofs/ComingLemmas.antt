-- The records of a bucket can come after those of the buckets before it.
use Rattle.std.proofs.Common.{◌≡◌, List, None, refl}
use Rattle.model_core.specs.Meaning.{Meaning}
use Rattle.sim_spec.specs.declared.bucket.Bucket.{Bucket}
use Rattle.sim_spec.specs.declared.terms.Terms.{Terms}
use Rattle.sim_spec.specs.Cycles.{records_of_buckets}
use Rattle.sim_spec.specs.State.{initial_state}
use Rattle.sim_spec.specs.Standing.{Standing, ended, IsCycle}
use Rattle.run_tally.specs.Tallies.{CanAllCome}
use Rattle.sim_text.proofs.UnderWay.{IsUnderWay, SimulationLaws, bucket-at_objects, bucket-in_time, bucket-has_room}

pub bucket-can_come : (m : Meaning) (t : Terms) (laws : SimulationLaws m t (initial_state m)) (standing : Standing) (so_far : List Bucket) (way : IsUnderWay m t (initial_state m) standing so_far)
    (bucket : Bucket) (new : Standing) → ended m t standing ≡ None → IsCycle m t standing bucket new → CanAllCome m (records_of_buckets so_far) bucket.done
bucket-can_come m t laws standing so_far way bucket new not_ended cycle = record {
  objects = bucket-at_objects m t _ laws standing so_far way bucket new not_ended cycle;
  in_time = bucket-in_time m t _ laws standing so_far way bucket new not_ended cycle refl;
  room = bucket-has_room m t _ laws standing so_far way bucket new not_ended cycle;
}
