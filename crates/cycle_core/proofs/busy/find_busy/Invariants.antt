use Rattle.cycle_core.specs.Busy.{AllBut, IsQuiet}
use Rattle.cycle_core.proofs.busy.find_busy.Given as goal

abbrev pub invariant-loop-i : goal.invariant-loop-i
invariant-loop-i g l = AllBut IsQuiet l.nodes l.busy.items 0 l.i
