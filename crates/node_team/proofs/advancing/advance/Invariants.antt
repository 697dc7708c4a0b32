use Rattle.std.proofs.Common.{◌≡◌, ◌≤◌, ◌+◌, length}
use Rattle.node_team.specs.Advances.{HasTold, IsIdleBelow}
use Rattle.node_team.proofs.AdvanceLemmas.{IsAdvancing}
use Rattle.node_team.proofs.advancing.advance.Given as goal

abbrev pub invariant-near : goal.invariant-near
invariant-near g l =
    IsAdvancing (g.M.Model.meaning l.fn.node.model) l.fn.node l.fn.seat l.node l.seat
    × (l.below ≡ l.seat.seen)
    × (l.seat.least ≤ l.offered)
    × (l.offered ≤ l.end)
    × (l.fn.ahead + length l.fn.node.processed ≤ l.left + length l.node.processed)
    × HasTold (g.G.Gate.was_told l.fn.gate l.fn.node.number) l.fn.node l.node

abbrev pub decreases-near : goal.decreases-near
decreases-near g l = length l.node.waiting

abbrev pub invariant-far : goal.invariant-far
invariant-far g l =
    IsAdvancing (g.M.Model.meaning l.fn.node.model) l.fn.node l.fn.seat l.node l.seat
    × IsIdleBelow (g.M.Model.meaning l.fn.node.model) l.seat.seen l.node
    × (l.seat.least ≤ l.offered)
    × (l.offered ≤ l.end)
    × (l.fn.ahead + length l.fn.node.processed + l.counter ≤ l.left + length l.node.processed)
    × HasTold (g.G.Gate.was_told l.fn.gate l.fn.node.number) l.fn.node l.node
