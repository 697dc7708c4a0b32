use Rattle.std.proofs.Common.{◌≡◌, [], drop, length}
use Rattle.cycle_core.specs.Records.{TellsNothing}
use Rattle.cycle_core.proofs.BusyLemmas.{IsPassing}
use Rattle.cycle_core.proofs.GivenLemmas.{IsMerging}
use Rattle.cycle_core.proofs.merging.merge_in_turn.Given as goal

abbrev pub invariant-loop-k : goal.invariant-loop-k
invariant-loop-k l =
    IsPassing TellsNothing l.initial.committed (drop l.k l.busy) (length l.initial.committed) (IsMerging l.initial.committed l.committed l.merged.items) × (l.spare.items ≡ [])
