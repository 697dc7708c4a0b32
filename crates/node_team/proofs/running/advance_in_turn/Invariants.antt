use Rattle.std.proofs.Common.{◌≡◌, ◌≤◌, ◌+◌, length}
use Rattle.std.specs.Prelude.{All}
use Rattle.node_team.proofs.RunningLemmas.{AreRunning}
use Rattle.node_team.proofs.running.advance_in_turn.Given as goal

abbrev pub invariant-loop-node : goal.invariant-loop-node
invariant-loop-node g l =
    AreRunning (g.M.Model.meaning) l.setting.ahead l.node-index l.initial.nodes l.nodes
    × (length l.nodes ≤ l.node-index + length l.seats.items)
    × ((seat : _) → All (λ each. each ≡ seat) l.initial.seats.items → All (λ each. each ≡ seat) l.seats.items)
