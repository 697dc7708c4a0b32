-- The totals of a simulation: the sums of each object, in order.
use Rattle.std.specs.Prelude.{ℕ, ◌+◌, List, [], ◌∷◌, ◌++◌, length, map}
use Rattle.std.specs.List.{range_with_len}
use Rattle.event_key.specs.declared.key.Key.{Key}
use Rattle.model_core.specs.declared.note.Note.{Note}
use Rattle.model_core.specs.Meaning.{Meaning}
use Rattle.run_tally.specs.Tallies.{TotalsOf, last_time}
use Rattle.sim_stats.specs.declared.sums.Sums.{Sums}
use Rattle.sim_stats.specs.Sums.{sums_of, sums_text}
use Rattle.sim_stats.specs.Words.{words_told}

-- the sums of each object, how many records they are of, and the time of the last one
pub record Summed : Type 0 where
  pub objects : List Sums
  pub records : ℕ
  pub last : ℕ

-- the totals of records, of a model with so many objects
unfoldable pub totals_of : ℕ → List (Key × Note) → Summed
totals_of objects records = record {
  objects = map (λ object. sums_of (words_told object records)) (range_with_len 0 objects);
  records = length records;
  last = last_time 0 records;
}

-- a line for each object, numbered from this one on
unfoldable pub lines_of_sums : Meaning → ℕ → List Sums → List ℕ
lines_of_sums m object [] = []
lines_of_sums m object (sums ∷ rest) = (m.label object ++ sums_text sums) ++ lines_of_sums m (object + 1) rest

unfoldable pub totals_lines : Meaning → List (Key × Note) → List ℕ
totals_lines m records = lines_of_sums m 0 (totals_of m.objects records).objects

-- how these totals are told of a model: why it stopped plays no part
abbrev pub told_by_objects : Meaning → TotalsOf
told_by_objects m records stop = totals_lines m records
