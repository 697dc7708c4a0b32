use Rattle.std.proofs.Common.{◌++◌, List, take}
use Rattle.event_key.specs.declared.key.Key.{Key}
use Rattle.model_core.specs.declared.note.Note.{Note}
use Rattle.run_tally.specs.Tallies.{CanAllCome}
use Rattle.run_tally.proofs.adding.add_all.Given as goal

abbrev pub invariant-loop-i : goal.invariant-loop-i
invariant-loop-i g l =
    (before : List (Key × Note)) → g.L.Tally.sums_up l.model l.fn.tally before → CanAllCome (g.M.Model.meaning l.model) before l.records.items
    → g.L.Tally.sums_up l.model l.tally (before ++ take l.i l.records.items)
