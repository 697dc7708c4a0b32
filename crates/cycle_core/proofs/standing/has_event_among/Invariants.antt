use Rattle.std.proofs.Common.{drop, length}
use Rattle.cycle_core.specs.Busy.{IsQuiet}
use Rattle.cycle_core.proofs.BusyLemmas.{IsPassing}
use Rattle.cycle_core.proofs.PassLemmas.{NoneUpto}
use Rattle.cycle_core.proofs.standing.has_event_among.Given as goal

abbrev pub invariant-loop-k : goal.invariant-loop-k
invariant-loop-k g l = IsPassing IsQuiet l.nodes (drop l.k l.busy) (length l.nodes) (NoneUpto (g.M.Model.meaning) l.bound l.nodes)
