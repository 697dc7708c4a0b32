use Rattle.std.proofs.Common.{drop, length}
use Rattle.cycle_core.specs.Busy.{IsQuiet}
use Rattle.cycle_core.specs.Gathered.{IsFaultBelow, MayFaultBelow, fault_key}
use Rattle.cycle_core.specs.Leasts.{IsLeastUpto}
use Rattle.cycle_core.proofs.BusyLemmas.{IsPassing}
use Rattle.cycle_core.proofs.cutting.least_fault.Given as goal

abbrev pub invariant-loop-k : goal.invariant-loop-k
invariant-loop-k g l =
    IsPassing IsQuiet l.nodes (drop l.k l.busy) (length l.nodes) (λ place. IsLeastUpto fault_key (IsFaultBelow (g.M.Model.meaning) l.fn.bound) (MayFaultBelow (g.M.Model.meaning) l.fn.bound) place l.nodes l.least)
