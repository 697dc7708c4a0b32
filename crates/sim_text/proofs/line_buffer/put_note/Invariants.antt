use Rattle.std.proofs.Common.{◌≡◌, ◌++◌, drop}
use Rattle.sim_io.specs.Texts.{event_lines}
use Rattle.sim_text.proofs.line_buffer.put_note.Given as goal

abbrev pub invariant-loop-i : goal.invariant-loop-i
invariant-loop-i g l =
    let m = g.M.Model.meaning l.model in
    l.into.items ++ event_lines m l.key (drop l.i l.note) ≡ l.initial.into.items ++ event_lines m l.key l.note
