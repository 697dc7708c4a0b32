-- What rows have summed up of a run, and what they can be told after it.
use Rattle.std.specs.Prelude.{ℕ, List, [], ◌∷◌, ◌++◌}
use Rattle.event_key.specs.declared.key.Key.{Key}
use Rattle.model_core.specs.declared.note.Note.{Note}
use Rattle.model_core.specs.Meaning.{Meaning}
use Rattle.sim_spec.specs.declared.stop.Stop.{Stop}
use Rattle.sim_spec.specs.declared.terms.Terms.{Terms}
use Rattle.run_tally.specs.Tallies.{CanCome, CanAllCome, AreOfRun}

-- by when rows have summed up some records, in a window that begins at a tick
module _ {R : Type 0} (sums_up : ℕ → R → List (Key × Note) → Type 0) (m : Meaning) where
  -- they have summed up some, after which this one can come
  pub record CanAdd (rows : R) (told : Key × Note) : Type 0 where
    pub first_tick : ℕ
    pub records : List (Key × Note)
    pub summed : sums_up first_tick rows records
    pub can_come : CanCome m records told

  -- whatever they had summed up, now it is this one too, if that could come
  abbrev pub AddsOne : R → R → Key × Note → Type 0
  AddsOne old new told =
      (first_tick : ℕ) (records : List (Key × Note)) → sums_up first_tick old records → CanCome m records told
      → sums_up first_tick new (records ++ told ∷ [])

  -- the same of several records, one after another
  pub record CanAddAll (rows : R) (more : List (Key × Note)) : Type 0 where
    pub first_tick : ℕ
    pub records : List (Key × Note)
    pub summed : sums_up first_tick rows records
    pub can_come : CanAllCome m records more

  abbrev pub AddsAll : R → R → List (Key × Note) → Type 0
  AddsAll old new more =
      (first_tick : ℕ) (records : List (Key × Note)) → sums_up first_tick old records → CanAllCome m records more
      → sums_up first_tick new (records ++ more)

  -- they have summed up all records of a run that stopped so
  pub record SumUpRun (rows : R) (t : Terms) (stop : Stop) : Type 0 where
    pub first_tick : ℕ
    pub records : List (Key × Note)
    pub summed : sums_up first_tick rows records
    pub of_run : AreOfRun m t records stop
