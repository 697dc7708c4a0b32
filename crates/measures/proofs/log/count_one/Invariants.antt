use Rattle.std.proofs.Common.{length}
use Rattle.measures.proofs.log.count_one.Given as goal

abbrev pub decreases-loop-message : goal.decreases-loop-message
decreases-loop-message l = length l.sends
