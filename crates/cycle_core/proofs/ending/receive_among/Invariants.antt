use Rattle.std.proofs.Common.{drop, length}
use Rattle.cycle_core.specs.Busy.{AllBut, IsQuiet}
use Rattle.cycle_core.proofs.PassLemmas.{IsReceiving}
use Rattle.cycle_core.proofs.ending.receive_among.Given as goal

abbrev pub invariant-loop-i : goal.invariant-loop-i
invariant-loop-i g l =
    IsReceiving (g.M.Model.meaning) l.initial.parcels l.initial.nodes l.i l.parcels l.nodes
    × AllBut IsQuiet l.initial.nodes (drop l.named l.busy) l.i (length l.initial.nodes) × AllBut IsQuiet l.nodes l.found.items 0 l.i
