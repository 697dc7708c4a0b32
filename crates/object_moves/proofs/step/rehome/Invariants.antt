-- The first nodes have the homes.
use Rattle.std.proofs.Common.{◌≡◌, ◌+◌, ◌≤◌, length}
use Rattle.cycle_core.proofs.PlaceLemmas.{IsUpto}
use Rattle.object_moves.proofs.step.rehome.Given as goal

abbrev pub invariant-loop-i : goal.invariant-loop-i
invariant-loop-i g l = record {
  nodes : IsUpto (λ x y. y ≡ record x { homes = l.fn.copies.homes }) l.i l.fn.nodes l.nodes;
  homes : l.copies.homes ≡ l.fn.copies.homes;
  left : length l.fn.nodes ≤ l.copies.left + l.i;
}
