-- What was told before a cycle begins.
use Rattle.std.specs.Prelude.{◌≡◌, ℕ, ◌+◌, List, [], ◌++◌, length, Option}
use Rattle.sim_io.specs.Taken.{Taken, Appends}
use Rattle.event_key.specs.declared.key.Key.{Key}
use Rattle.model_core.specs.Meaning.{Meaning}
use Rattle.sim_spec.specs.declared.bucket.Bucket.{Bucket}
use Rattle.sim_spec.specs.declared.terms.Terms.{Terms}
use Rattle.sim_spec.specs.Cycles.{cycles, cycles_for, records_of_buckets}
use Rattle.sim_spec.specs.Standing.{Standing, stands}
use Rattle.sim_spec.specs.State.{State}
use Rattle.sim_io.specs.CycleTexts.{lines_of_buckets}
use Rattle.sim_text.specs.declared.telling.Telling.{Telling}
use Rattle.sim_text.specs.WholeTexts.{first_lines}

-- what is told at once of these buckets
unfoldable pub lines_so_far : Meaning → Telling → List Bucket → List ℕ
lines_so_far m (Telling.Lines cycles) bs = lines_of_buckets m cycles 1 bs
lines_so_far m Telling.Totals bs = []
lines_so_far m (Telling.Demo n) bs = []

-- a simulation has come to a standing: all that is told at once of its buckets so far, which have all the events that are
-- done, was written
pub record HasToldSoFar (m : Meaning) (t : Terms) (telling : Telling) (from : State) (old now : Taken) (at : Standing) : Type 0 where
  pub state : State
  pub fault : Option (Key × ℕ)
  pub at_state : at ≡ stands state fault
  pub so_far : List Bucket
  pub more : List Bucket
  pub buckets : (cycles m t from).buckets ≡ so_far ++ more
  pub counted : state.count ≡ from.count + length (records_of_buckets so_far)
  pub told : Appends old now (lines_so_far m telling so_far)

-- a simulation has come to a standing after so many cycles: all their records were written
pub record HasToldFirst (m : Meaning) (t : Terms) (from : State) (old now : Taken) (at : Standing) : Type 0 where
  pub done : ℕ
  pub fault : Option (Key × ℕ)
  pub at_state : at ≡ stands (cycles_for done m t from).last fault
  pub told : Appends old now (first_lines m t done from)
