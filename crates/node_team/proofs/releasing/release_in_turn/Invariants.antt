use Rattle.node_team.specs.Desks.{desks_of}
use Rattle.node_team.proofs.DeskLemmas.{ServedUpto}
use Rattle.node_team.proofs.releasing.release_in_turn.Given as goal

abbrev pub invariant-loop-i : goal.invariant-loop-i
invariant-loop-i g l =
    ServedUpto g.E.NodeEnd g.M.Model.meaning l.due l.i (desks_of l.initial.nodes l.initial.ends l.initial.committed l.initial.inboxes) (desks_of l.nodes l.ends l.committed l.inboxes)
