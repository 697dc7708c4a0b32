use Rattle.std.proofs.Common.{◌≡◌, drop, length}
use Rattle.cycle_core.specs.Busy.{IsQuiet}
use Rattle.cycle_core.proofs.BusyLemmas.{IsPassing}
use Rattle.cycle_core.proofs.ClosingLemmas.{IsOpenedUpto}
use Rattle.cycle_core.proofs.closing.open_busy.Given as goal

abbrev pub invariant-loop-k : goal.invariant-loop-k
invariant-loop-k g l = (l.nodes ≡ l.initial.nodes) × IsPassing IsQuiet l.nodes (drop l.k l.busy) (length l.nodes) (λ place. IsOpenedUpto (g.M.Model.meaning) l.end place l.nodes l.bound)
