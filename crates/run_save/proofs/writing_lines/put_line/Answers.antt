-- Each value is one of the type.
use Rattle.std.proofs.Common.{◌<◌, ◌^◌, arith}
use Rattle.std.proofs.lemmas.List.Elements.{All-from_get_or, recursion_from_All}
use Rattle.delta_exchange.specs.Changes.{line_of}
use Rattle.run_save.proofs.writing_lines.put_line.Goals as goal

pub returns-clause-fits : goal.returns-clause-fits
returns-clause-fits c = record {
  many = omega arith;
  each = recursion_from_All (λ n. n < 2 ^ 64) (line_of c.args.cells.now.contents c.args.line) (All-from_get_or (λ n. n < 2 ^ 64) (line_of c.args.cells.now.contents c.args.line) 0 (λ k within. c.loop-i.invariant.fits k (omega arith)));
}
