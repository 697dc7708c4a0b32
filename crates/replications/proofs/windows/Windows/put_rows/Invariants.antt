use Rattle.std.proofs.Common.{◌≡◌, ℕ, ◌++◌, List, take}
use Rattle.event_key.specs.declared.key.Key.{Key}
use Rattle.model_core.specs.declared.note.Note.{Note}
use Rattle.replications.specs.Tables.{windows_of}
use Rattle.replications.specs.Rows.{rows_from, table_of}
use Rattle.replications.proofs.windows.Windows.put_rows.Given as goal

abbrev pub invariant-loop-object : goal.invariant-loop-object
invariant-loop-object g l =
    let m = g.M.Model.meaning l.model in
    (first_tick objects : ℕ) (records : List (Key × Note)) → l.self ≡ windows_of first_tick objects records
    → l.into.items ≡ l.fn.into.items ++ rows_from m first_tick l.span.last_tick l.end 0 (take l.object (table_of first_tick l.span.last_tick m.objects records))
