use Rattle.std.proofs.Common.{◌≡◌, ◌++◌, ◌<◌, ℕ, take}
use Rattle.std.specs.List.{flat_map}
use Rattle.std.specs.Io.{StartsWith}
use Rattle.run_save.specs.StateTexts.{counted_text}
use Rattle.delta_exchange.specs.Changes.{line_of}
use Rattle.run_save.specs.SavedLaws.{IsLine}
use Rattle.run_save.proofs.writing_lines.put_lines.Given as goal

abbrev pub invariant-loop-line : goal.invariant-loop-line
invariant-loop-line l = record {
  text : l.into.items ≡ l.initial.into.items ++ flat_map counted_text (take l.line l.cells.contents.lines);
  prefix : StartsWith l.into.items l.fn.into.items;
  fits : (k : ℕ) → k < l.line → IsLine (line_of l.cells.contents k);
}
