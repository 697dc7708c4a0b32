use Rattle.std.proofs.Common.{map}
use Rattle.cycle_core.specs.Ends.{ReceiveUpto}
use Rattle.node_team.specs.Releases.{arrived_in}
use Rattle.node_team.proofs.ReleaseLemmas.{AreTakenUpto}
use Rattle.node_team.proofs.arriving.receive_in_turn.Given as goal

abbrev pub invariant-loop-i : goal.invariant-loop-i
invariant-loop-i g l = ReceiveUpto (g.M.Model.meaning) l.i (map arrived_in l.initial.inboxes) l.initial.nodes l.nodes × AreTakenUpto l.i l.initial.inboxes l.inboxes
