-- The rows of a table: what each object did within a window of a run.
use Rattle.std.specs.Prelude.{ℕ, ◌+◌, ◌-◌, List, [], ◌∷◌, ◌++◌, codes, decimal, map}
use Rattle.std.specs.List.{range_with_len}
use Rattle.event_key.specs.declared.key.Key.{Key}
use Rattle.event_key.specs.Stamps.{time_part}
use Rattle.model_core.specs.declared.note.Note.{Note}
use Rattle.model_core.specs.Meaning.{Meaning}
use Rattle.sim_spec.specs.declared.stop.Stop.{Stop}
use Rattle.sim_spec.specs.declared.stop.Stop.TheVariants.{End, Limit, Fault}
use Rattle.sim_spec.specs.declared.terms.Terms.{Terms}
use Rattle.run_tally.specs.Tallies.{last_time}
use Rattle.replications.specs.declared.rows.RunEnd.{RunEnd}
use Rattle.replications.specs.declared.window.Columns.{Columns}
use Rattle.replications.specs.Ends.{RowsOf}
use Rattle.replications.specs.Parts.{parts_told}
use Rattle.replications.specs.Windows.{window_sums}

abbrev pub stop_name : Stop → List ℕ
stop_name End = codes "end"
stop_name Limit = codes "limit"
stop_name (Fault key code) = codes "fault"

-- the last tick of a run of these records: its end, the time of its fault, or where the limit stopped it the time of its last record
abbrev pub last_tick : Terms → List (Key × Note) → Stop → ℕ
last_tick t records End = t.end
last_tick t records Limit = last_time 0 records
last_tick t records (Fault key code) = time_part key.stamp

-- a number, and the comma behind it
abbrev pub field : ℕ → List ℕ
field number = decimal number ++ codes ","

unfoldable pub seed_text : ℕ → List ℕ
seed_text seed = field seed

unfoldable pub counts_text : Columns → List ℕ
counts_text sums = codes "," ++ (field sums.arrivals ++ (field sums.served ++ field sums.lost))

unfoldable pub times_text : Columns → List ℕ
times_text sums = field sums.busy ++ (field sums.waiting ++ (field sums.age ++ field sums.longest))

abbrev pub columns_text : Columns → List ℕ
columns_text sums = counts_text sums ++ times_text sums

unfoldable pub end_text : ℕ → RunEnd → List ℕ
end_text ticks end = field ticks ++ (field end.events ++ (stop_name end.stop ++ codes "\n"))

-- the row of an object with these sums, from the first tick of the window to its last one
unfoldable pub row : Meaning → ℕ → ℕ → RunEnd → ℕ → Columns → List ℕ
row m first_tick last end object sums = seed_text end.seed ++ (m.label object ++ (columns_text sums ++ end_text (last - first_tick) end))

-- the row of an object over the records of a run
abbrev pub row_of : Meaning → ℕ → ℕ → RunEnd → ℕ → List (Key × Note) → List ℕ
row_of m first_tick last end object records = row m first_tick last end object (window_sums first_tick last (parts_told object records))

-- a row for each object, numbered from this one on
unfoldable pub rows_from : Meaning → ℕ → ℕ → RunEnd → ℕ → List Columns → List ℕ
rows_from m first_tick last end object [] = []
rows_from m first_tick last end object (sums ∷ rest) = row m first_tick last end object sums ++ rows_from m first_tick last end (object + 1) rest

-- the sums of each object over these records
unfoldable pub table_of : ℕ → ℕ → ℕ → List (Key × Note) → List Columns
table_of first_tick last objects records = map (λ object. window_sums first_tick last (parts_told object records)) (range_with_len 0 objects)

-- the rows of a run with these records, that ended so
unfoldable pub rows_of_records : Meaning → Terms → ℕ → RunEnd → List (Key × Note) → List ℕ
rows_of_records m t first_tick end records =
    let last = last_tick t records end.stop in rows_from m first_tick last end 0 (table_of first_tick last m.objects records)

-- what a table of windows says of a run of a model
abbrev pub window_rows : Meaning → RowsOf
window_rows m first_tick t end records = rows_of_records m t first_tick end records
