use Rattle.std.proofs.Common.{◌≡◌, ◌++◌, ◌<◌, ◌^◌, ℕ, get_or, take}
use Rattle.std.specs.List.{flat_map}
use Rattle.std.specs.Io.{StartsWith}
use Rattle.delta_exchange.specs.Changes.{line_of}
use Rattle.run_save.specs.StateTexts.{field_text}
use Rattle.run_save.proofs.writing_lines.put_line.Given as goal

abbrev pub invariant-loop-i : goal.invariant-loop-i
invariant-loop-i l = record {
  text : l.into.items ≡ l.initial.into.items ++ flat_map field_text (take l.i (line_of l.cells.contents l.line));
  prefix : StartsWith l.into.items l.fn.into.items;
  fits : (k : ℕ) → k < l.i → get_or (line_of l.cells.contents l.line) k 0 < 2 ^ 64;
}
