use Rattle.cycle_core.proofs.GivenLemmas.{IsOnlyUpto}
use Rattle.cycle_core.proofs.merging.only_told.Given as goal

abbrev pub invariant-loop-i : goal.invariant-loop-i
invariant-loop-i l = IsOnlyUpto l.committed l.i l.only l.told
