-- Nothing happens past the end.
use Rattle.std.specs.Prelude.{ℕ, ◌<◌, ◌≤◌, All}
use Rattle.event_key.specs.declared.key.Key.{Key}
use Rattle.event_key.specs.Stamps.{end_stamp}
use Rattle.model_core.specs.declared.note.Note.{Note}
use Rattle.model_core.specs.Meaning.{Meaning}
use Rattle.sim_spec.specs.declared.terms.Terms.{Terms}
use Rattle.sim_stats.specs.Sums.{sums_of}
use Rattle.sim_stats.specs.Words.{words_told}
use Rattle.run_laws.specs.Reached.{first_records}

-- each record of a run, of whatever model, has a stamp below the first one past the last tick
abbrev pub RecordsEnd : Type 0
RecordsEnd = (m : Meaning) (t : Terms) (n : ℕ) → All (λ (told : Key × Note). told.0.stamp < end_stamp t.end) (first_records n m t)

-- so the last word that is told of an object, up to which its totals sum, is told at the last tick or before
abbrev pub TotalsEnd : Type 0
TotalsEnd = (m : Meaning) (t : Terms) (i n : ℕ) → (sums_of (words_told i (first_records n m t))).last ≤ t.end
