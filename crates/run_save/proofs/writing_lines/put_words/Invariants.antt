use Rattle.std.proofs.Common.{◌≡◌, ◌++◌, ◌<◌, ◌^◌, ℕ, get_or, take}
use Rattle.std.specs.List.{flat_map}
use Rattle.std.specs.Io.{StartsWith}
use Rattle.run_save.specs.StateTexts.{field_text}
use Rattle.run_save.proofs.writing_lines.put_words.Given as goal

abbrev pub invariant-loop-i : goal.invariant-loop-i
invariant-loop-i l = record {
  text : l.into.items ≡ l.initial.into.items ++ flat_map field_text (take l.i l.cells.contents.words);
  prefix : StartsWith l.into.items l.fn.into.items;
  fits : (k : ℕ) → k < l.i → get_or l.cells.contents.words k 0 < 2 ^ 64;
}
