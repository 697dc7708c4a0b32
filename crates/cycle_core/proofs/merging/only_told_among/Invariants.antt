use Rattle.std.proofs.Common.{drop, length}
use Rattle.cycle_core.specs.Records.{TellsNothing}
use Rattle.cycle_core.proofs.BusyLemmas.{IsPassing}
use Rattle.cycle_core.proofs.GivenLemmas.{IsOnlyUpto}
use Rattle.cycle_core.proofs.merging.only_told_among.Given as goal

abbrev pub invariant-loop-k : goal.invariant-loop-k
invariant-loop-k l = IsPassing TellsNothing l.committed (drop l.k l.busy) (length l.committed) (λ place. IsOnlyUpto l.committed place l.only l.told)
