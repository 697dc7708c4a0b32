use Rattle.std.proofs.Common.{◌≤◌, ◌+◌, length}
use Rattle.cycle_core.proofs.WorkLemmas.{IsSettling}
use Rattle.node_team.specs.Advances.{HasTold}
use Rattle.node_team.proofs.AloneLemmas.{IsPast}
use Rattle.node_team.proofs.alone.advance_alone.Given as goal

abbrev pub invariant-near : goal.invariant-near
invariant-near g l =
    IsSettling (g.M.Model.meaning l.fn.node.model) l.fn.node l.bound l.fallen l.node
    × (l.fn.ahead + length l.fn.node.processed ≤ l.left + length l.node.processed)
    × HasTold (g.G.Gate.was_told l.fn.gate l.fn.node.number) l.fn.node l.node

abbrev pub decreases-near : goal.decreases-near
decreases-near g l = length l.node.waiting

abbrev pub invariant-far : goal.invariant-far
invariant-far g l =
    IsPast (g.M.Model.meaning l.fn.node.model) l.fn.node l.bound l.fallen l.node
    × (l.fn.ahead + length l.fn.node.processed + l.counter ≤ l.left + length l.node.processed)
    × HasTold (g.G.Gate.was_told l.fn.gate l.fn.node.number) l.fn.node l.node
