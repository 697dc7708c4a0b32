use Rattle.std.proofs.Common.{length, ◌+◌, ◌-◌, ◌*◌}
use Rattle.node_team.proofs.releasing.+halves.Given as goal

abbrev pub decreases-release_in_parts : goal.decreases-release_in_parts
decreases-release_in_parts g l = 4 * length l.nodes.now

abbrev pub decreases-release_both : goal.decreases-release_both
decreases-release_both g l = 4 * (length l.low.nodes.now + length l.high.nodes.now) - 1

abbrev pub decreases-release_both-first : goal.decreases-release_both-first
decreases-release_both-first g l = 4 * length l.n1.now + 1

abbrev pub decreases-release_both-second : goal.decreases-release_both-second
decreases-release_both-second g l = 4 * length l.n2.now + 1
