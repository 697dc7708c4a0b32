-- What is kept of the buckets of a simulation for its text, and what is told of each at once.
use Rattle.std.specs.Prelude.{◌≡◌, ℕ, ◌+◌, ◌^◌, ◌<◌, ◌≤◌, List, [], length}
use Rattle.event_key.specs.declared.key.Key.{Key}
use Rattle.model_core.specs.declared.note.Note.{Note}
use Rattle.model_core.specs.Meaning.{Meaning}
use Rattle.sim_spec.specs.declared.bucket.Bucket.{Bucket}
use Rattle.sim_spec.specs.declared.stop.Stop.{Stop}
use Rattle.sim_spec.specs.Cycles.{records_of_buckets}
use Rattle.model_core.specs.declared.limits.TheConstants.{MOST_EVENTS}
use Rattle.run_tally.specs.Tallies.{TotalsOf, IsInTime, last_time}
use Rattle.sim_io.specs.CycleTexts.{bucket_lines, demo_line}
use Rattle.sim_text.specs.declared.telling.Telling.{Telling}
use Rattle.sim_text.specs.declared.report.Report.{Report}
use Rattle.sim_text.specs.declared.report.Report.TheVariants.{Lines, Sums, Counts}
use Rattle.sim_text.specs.declared.summary.Summary.{Summary}
use Rattle.sim_text.specs.Rest.{AllAtObjects}
use Rattle.sim_text.specs.WholeTexts.{whole_cycles, last_stamp}

unfoldable pub summary_of : ℕ → List Bucket → Summary
summary_of n bs = record { n = n; cycles = whole_cycles bs; last = last_stamp 0 (records_of_buckets bs) }

-- what is kept of these buckets where this is to be told; a tally says itself which records it has summed up
abbrev pub IsReportOf : {L : Type 0} → (L → List (Key × Note) → Type 0) → Telling → List Bucket → Report L → Type 0
IsReportOf SumsUp telling bs (Lines cycles) = telling ≡ Telling.Lines cycles
IsReportOf SumsUp telling bs (Sums tally) = (telling ≡ Telling.Totals) × SumsUp tally (records_of_buckets bs)
IsReportOf SumsUp telling bs (Counts summary) = (n : ℕ) × (telling ≡ Telling.Demo n) × (summary ≡ summary_of n bs)

-- after these buckets this one can come: totals ask for its records in time
pub record CanGoOn (m : Meaning) (telling : Telling) (bs : List Bucket) (b : Bucket) : Type 0 where
  pub objects : AllAtObjects m b.done
  pub in_time : telling ≡ Telling.Totals → IsInTime (last_time 0 (records_of_buckets bs)) b.done
  pub room : length (records_of_buckets bs) + length b.done ≤ MOST_EVENTS
  pub few : length bs < 2 ^ 63

-- what is told at once of a bucket with this number
abbrev pub told_at_once : Meaning → Telling → ℕ → Bucket → List ℕ
told_at_once m (Telling.Lines cycles) number b = bucket_lines m cycles number b
told_at_once m Telling.Totals number b = []
told_at_once m (Telling.Demo n) number b = []

-- what is told of all buckets in the end, after so many events, by how totals are told
abbrev pub told_in_the_end : TotalsOf → Telling → List Bucket → ℕ → Stop → List ℕ
told_in_the_end totals (Telling.Lines cycles) bs count stop = []
told_in_the_end totals Telling.Totals bs count stop = totals (records_of_buckets bs) stop
told_in_the_end totals (Telling.Demo n) bs count stop = demo_line n count (whole_cycles bs) (last_stamp 0 (records_of_buckets bs))
