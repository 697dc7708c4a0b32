use Rattle.std.proofs.Common.{◌≡◌, ◌++◌, drop}
use Rattle.sim_io.specs.Texts.{record_lines}
use Rattle.sim_text.proofs.bucket_text.put_records.Given as goal

abbrev pub invariant-loop-i : goal.invariant-loop-i
invariant-loop-i g l =
    let m = g.M.Model.meaning l.model in
    l.into.items ++ record_lines m (drop l.i l.records.items) ≡ l.initial.into.items ++ record_lines m l.records.items
