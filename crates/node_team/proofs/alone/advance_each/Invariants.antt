use Rattle.std.proofs.Common.{drop, length}
use Rattle.cycle_core.specs.Busy.{IsQuiet}
use Rattle.cycle_core.proofs.BusyLemmas.{IsPassing}
use Rattle.node_team.proofs.AloneLemmas.{AreAdvancing}
use Rattle.node_team.proofs.alone.advance_each.Given as goal

abbrev pub invariant-loop-k : goal.invariant-loop-k
invariant-loop-k g l =
    IsPassing IsQuiet l.initial.nodes (drop l.k l.busy) (length l.initial.nodes) (AreAdvancing (g.M.Model.meaning) l.fn.terms l.setting.ahead l.initial.nodes l.nodes l.fallen)
