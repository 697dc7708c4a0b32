-- Each word is one of the type.
use Rattle.std.proofs.Common.{◌<◌, ◌^◌, arith}
use Rattle.std.proofs.lemmas.List.Elements.{All-from_get_or, recursion_from_All}
use Rattle.run_save.proofs.writing_lines.put_words.Goals as goal

pub returns-clause-fits : goal.returns-clause-fits
returns-clause-fits c = record {
  many = omega arith;
  each = recursion_from_All (λ n. n < 2 ^ 64) c.args.cells.now.contents.words (All-from_get_or (λ n. n < 2 ^ 64) c.args.cells.now.contents.words 0 (λ k within. c.loop-i.invariant.fits k (omega arith)));
}
