use Rattle.std.proofs.Common.{◌≡◌, ◌+◌, drop, length}
use Rattle.cycle_core.specs.Busy.{IsQuiet}
use Rattle.cycle_core.specs.Gathered.{processed_in}
use Rattle.cycle_core.proofs.BusyLemmas.{IsPassing}
use Rattle.cycle_core.proofs.cutting.are_within.Given as goal

abbrev pub invariant-loop-k : goal.invariant-loop-k
invariant-loop-k g l = IsPassing IsQuiet l.nodes (drop l.k l.busy) (length l.nodes) (λ place. processed_in l.nodes + l.left ≡ processed_in (drop place l.nodes) + l.initial.left)
