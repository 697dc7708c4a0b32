use Rattle.std.proofs.Common.{arith}
use Rattle.tick_queue.proofs.MarkLemmas.{first_is}
use Rattle.tick_queue.proofs.marks.first_marked.Goals as goal

pub returns-then-word-ne0-clause-some : goal.returns-then-word-ne0-clause-some
returns-then-word-ne0-clause-some c =
    first_is c.args.words.now c.loop-level.level (omega arith) (omega arith) (omega arith) c.loop-level.invariant
