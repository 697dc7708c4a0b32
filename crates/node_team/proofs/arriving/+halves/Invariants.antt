use Rattle.std.proofs.Common.{length, ◌+◌, ◌-◌, ◌*◌}
use Rattle.node_team.proofs.arriving.+halves.Given as goal

abbrev pub decreases-receive_arrived : goal.decreases-receive_arrived
decreases-receive_arrived g l = 4 * length l.nodes.now

abbrev pub decreases-receive_both : goal.decreases-receive_both
decreases-receive_both g l = 4 * (length l.n1.now + length l.n2.now) - 1

abbrev pub decreases-receive_both-first : goal.decreases-receive_both-first
decreases-receive_both-first g l = 4 * length l.n1.now + 1

abbrev pub decreases-receive_both-second : goal.decreases-receive_both-second
decreases-receive_both-second g l = 4 * length l.n2.now + 1
