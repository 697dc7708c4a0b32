use Rattle.std.proofs.Common.{◌≡◌, ◌++◌, drop}
use Rattle.std.specs.Io.{StartsWith}
use Rattle.sim_io.specs.Texts.{event_lines}
use Rattle.sim_io.proofs.lines.line_writer.LineWriter.put_lines.Given as goal

abbrev pub invariant-loop-part : goal.invariant-loop-part
invariant-loop-part g l =
    let m = g.M.Model.meaning l.model in
    record {
      lines : l.into.items ++ event_lines m l.key (drop l.part-index l.parts) ≡ l.initial.into.items ++ event_lines m l.key l.parts;
      prefix : StartsWith l.into.items l.initial.into.items;
    }
