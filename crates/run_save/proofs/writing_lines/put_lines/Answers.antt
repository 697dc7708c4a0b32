-- Each line is one of the type.
use Rattle.std.proofs.Common.{[], arith}
use Rattle.std.proofs.lemmas.List.Elements.{All-from_get_or, recursion_from_All}
use Rattle.run_save.specs.SavedLaws.{IsLine}
use Rattle.run_save.proofs.writing_lines.put_lines.Goals as goal

pub returns-clause-fits : goal.returns-clause-fits
returns-clause-fits c = recursion_from_All IsLine c.args.cells.now.contents.lines (All-from_get_or IsLine c.args.cells.now.contents.lines [] (λ k within. c.loop-line.invariant.fits k (omega arith)))
