use Rattle.std.proofs.Common.{length}
use Rattle.measures.proofs.log.commit.Given as goal

abbrev pub decreases-loop-entry : goal.decreases-loop-entry
decreases-loop-entry l = length l.done
