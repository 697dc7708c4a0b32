use Rattle.std.proofs.Common.{◌++◌, ℕ, List, take}
use Rattle.event_key.specs.declared.key.Key.{Key}
use Rattle.model_core.specs.declared.note.Note.{Note}
use Rattle.run_tally.specs.Tallies.{CanAllCome}
use Rattle.replications.proofs.run_rows.add_all.Given as goal

abbrev pub invariant-loop-i : goal.invariant-loop-i
invariant-loop-i g l =
    (first_tick : ℕ) (before : List (Key × Note)) → g.W.Rows.sums_up l.model first_tick l.fn.rows before → CanAllCome (g.M.Model.meaning l.model) before l.records.items
    → g.W.Rows.sums_up l.model first_tick l.rows (before ++ take l.i l.records.items)
