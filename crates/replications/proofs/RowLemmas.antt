-- The rows of a table, with one object more.
use Rattle.std.proofs.Common.{◌≡◌, ℕ, ◌+◌, ◌-◌, ◌<◌, ◌≤◌, List, [], ◌∷◌, ◌++◌, length, take, get_or, sym, ap, ◌∙◌, arith, append-nil, append_assoc, length-take}
use Rattle.std.proofs.lemmas.List.{take_all, take_more}
use Rattle.std.proofs.lemmas.List.FromFn.{length-map-range_with_len, get_or-map-range_with_len}
use Rattle.event_key.specs.declared.key.Key.{Key}
use Rattle.model_core.specs.declared.note.Note.{Note}
use Rattle.model_core.specs.Meaning.{Meaning}
use Rattle.sim_spec.specs.declared.terms.Terms.{Terms}
use Rattle.replications.specs.declared.rows.RunEnd.{RunEnd}
use Rattle.replications.specs.declared.window.Columns.{Columns}
use Rattle.replications.specs.Parts.{parts_told}
use Rattle.replications.specs.Windows.{window_sums}
use Rattle.replications.specs.Rows.{seed_text, columns_text, end_text, row, rows_from, table_of, last_tick, rows_of_records}

-- a row is written piece by piece
pub row-written : (m : Meaning) (first_tick last ticks : ℕ) (end : RunEnd) (object : ℕ) (sums sums' : Columns) (old seeded named summed ended : List ℕ)
    → seeded ≡ old ++ seed_text end.seed → named ≡ seeded ++ m.label object → summed ≡ named ++ columns_text sums → ended ≡ summed ++ end_text ticks end
    → sums ≡ sums' → ticks ≡ last - first_tick
    → ended ≡ old ++ row m first_tick last end object sums'
unfolding row
row-written m first_tick last ticks end object sums sums' old seeded named summed ended seed name columns tail is_sums is_ticks =
    let label = m.label object in
    tail
    ∙ ap (λ n. summed ++ end_text n end) is_ticks
    ∙ ap (λ xs. xs ++ end_text (last - first_tick) end) (columns ∙ ap (λ (s : Columns). named ++ columns_text s) is_sums)
    ∙ append_assoc named (columns_text sums') (end_text (last - first_tick) end)
    ∙ ap (λ xs. xs ++ (columns_text sums' ++ end_text (last - first_tick) end)) name
    ∙ append_assoc seeded label (columns_text sums' ++ end_text (last - first_tick) end)
    ∙ ap (λ xs. xs ++ (label ++ (columns_text sums' ++ end_text (last - first_tick) end))) seed
    ∙ append_assoc old (seed_text end.seed) (label ++ (columns_text sums' ++ end_text (last - first_tick) end))

module _ (m : Meaning) (first_tick last : ℕ) (end : RunEnd) where
  rows_from-more : (object : ℕ) (table : List Columns) (one : Columns)
      → rows_from m first_tick last end object (table ++ one ∷ []) ≡ rows_from m first_tick last end object table ++ row m first_tick last end (object + length table) one
  unfolding rows_from
  rows_from-more object [] one = append-nil (row m first_tick last end object one) ∙ ap (λ n. row m first_tick last end n one) (omega arith)
  rows_from-more object (sums ∷ rest) one =
      ap (λ (lines : List ℕ). row m first_tick last end object sums ++ lines)
      (rows_from-more (object + 1) rest one ∙ ap (λ n. rows_from m first_tick last end (object + 1) rest ++ row m first_tick last end n one) (omega arith))
      ∙ sym (append_assoc (row m first_tick last end object sums) (rows_from m first_tick last end (object + 1) rest) (row m first_tick last end (object + length (sums ∷ rest)) one))

  -- the row of the next object
  pub rows_from-next : (table : List Columns) (i : ℕ) (one : Columns) (old lines more : List ℕ) → i < length table → one ≡ get_or table i one
      → lines ≡ old ++ rows_from m first_tick last end 0 (take i table) → more ≡ lines ++ row m first_tick last end i one → more ≡ old ++ rows_from m first_tick last end 0 (take (i + 1) table)
  rows_from-next table i one old lines more within is so_far next =
      next ∙ ap (λ (lines : List ℕ). lines ++ row m first_tick last end i one) so_far
      ∙ append_assoc old (rows_from m first_tick last end 0 (take i table)) (row m first_tick last end i one)
      ∙ ap (λ (lines : List ℕ). old ++ lines)
      (ap (λ n. rows_from m first_tick last end 0 (take i table) ++ row m first_tick last end n one) (omega (arith, length-take i table))
      ∙ sym (rows_from-more 0 (take i table) one)
      ∙ ap (λ (table : List Columns). rows_from m first_tick last end 0 table) (ap (λ (sums : Columns). take i table ++ sums ∷ []) is ∙ sym (take_more table i one within)))

sums_at : ℕ → ℕ → List (Key × Note) → ℕ → Columns
sums_at first_tick last records object = window_sums first_tick last (parts_told object records)

pub table_of-length : (first_tick last objects : ℕ) (records : List (Key × Note)) → length (table_of first_tick last objects records) ≡ objects
unfolding table_of sums_at
table_of-length first_tick last objects records = length-map-range_with_len (sums_at first_tick last records) 0 objects

pub table_of-at : (first_tick last objects : ℕ) (records : List (Key × Note)) (object : ℕ) (none : Columns) → object < objects
    → get_or (table_of first_tick last objects records) object none ≡ window_sums first_tick last (parts_told object records)
unfolding table_of sums_at
table_of-at first_tick last objects records object none exists = get_or-map-range_with_len (sums_at first_tick last records) 0 objects object object none exists (omega arith)

-- all rows are written
pub rows-written : (m : Meaning) (t : Terms) (first_tick last : ℕ) (end : RunEnd) (records : List (Key × Note)) (i : ℕ) (old lines : List ℕ) → last ≡ last_tick t records end.stop → m.objects ≤ i
    → lines ≡ old ++ rows_from m first_tick last end 0 (take i (table_of first_tick last m.objects records)) → lines ≡ old ++ rows_of_records m t first_tick end records
unfolding rows_of_records
rows-written m t first_tick last end records i old lines is_last past written =
    written
    ∙ ap (λ (table : List Columns). old ++ rows_from m first_tick last end 0 table) (take_all i (table_of first_tick last m.objects records) (omega (arith, table_of-length first_tick last m.objects records)))
    ∙ ap (λ n. old ++ rows_from m first_tick n end 0 (table_of first_tick n m.objects records)) is_last

-- no row is written yet
pub rows-begun : (m : Meaning) (first_tick last : ℕ) (end : RunEnd) (table : List Columns) (old : List ℕ) → old ≡ old ++ rows_from m first_tick last end 0 (take 0 table)
unfolding rows_from
rows-begun m first_tick last end table old = sym (append-nil old)
