-- What a tally takes, and what it tells in the end.
use Rattle.std.specs.Prelude.{◌≡◌, ℕ, ◌+◌, ◌<◌, ◌≤◌, List, [], ◌∷◌, length, All}
use Rattle.event_key.specs.declared.key.Key.{Key}
use Rattle.event_key.specs.Stamps.{time_part}
use Rattle.model_core.specs.declared.limits.TheConstants.{MOST_EVENTS}
use Rattle.model_core.specs.declared.note.Note.{Note}
use Rattle.model_core.specs.Meaning.{Meaning}
use Rattle.sim_spec.specs.declared.stop.Stop.{Stop}
use Rattle.sim_spec.specs.declared.terms.Terms.{Terms}
use Rattle.sim_spec.specs.Run.{run}
use Rattle.sim_spec.specs.State.{initial_state}

-- how totals are told: their lines over the records of a run, and why it stopped
abbrev pub TotalsOf : Type 0
TotalsOf = List (Key × Note) → Stop → List ℕ

-- of a model without totals
abbrev pub no_totals : TotalsOf
no_totals records stop = []

-- the time of the last record, and this time where there is none
unfoldable pub last_time : ℕ → List (Key × Note) → ℕ
last_time time [] = time
last_time time (told ∷ rest) = last_time (time_part told.0.stamp) rest

-- no record comes before the one before it, nor the first one before this time
unfoldable pub IsInTime : ℕ → List (Key × Note) → Type 0
IsInTime time [] = Unit {0}
IsInTime time (told ∷ rest) = (time ≤ time_part told.0.stamp) × IsInTime (time_part told.0.stamp) rest

-- after these records this one can come: it is at an object of the model, tells four parts at most, and is told no earlier
pub record CanCome (m : Meaning) (records : List (Key × Note)) (told : Key × Note) : Type 0 where
  pub object : told.0.dest < m.objects
  pub few_parts : length told.1 ≤ 4
  pub in_time : last_time 0 records ≤ time_part told.0.stamp
  pub room : length records < MOST_EVENTS

-- so can all of these, one after another
pub record CanAllCome (m : Meaning) (records more : List (Key × Note)) : Type 0 where
  pub objects : All (λ told. told.0.dest < m.objects) more
  pub in_time : IsInTime (last_time 0 records) more
  pub room : length records + length more ≤ MOST_EVENTS

-- these are all records of the run of a model from its start, which stops so
pub record AreOfRun (m : Meaning) (t : Terms) (records : List (Key × Note)) (stop : Stop) : Type 0 where
  pub are_all : records ≡ (run m t (initial_state m)).records
  pub stops_so : stop ≡ (run m t (initial_state m)).stop
