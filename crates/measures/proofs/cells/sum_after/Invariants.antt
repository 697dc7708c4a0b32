use Rattle.std.proofs.Common.{◌<◌, length}
use Rattle.measures.proofs.cells.sum_after.Given as goal

abbrev pub invariant-loop-value : goal.invariant-loop-value
invariant-loop-value l = 0 < length l.cells.contents.lines
