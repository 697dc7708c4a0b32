-- The first moves are prepared.
use Rattle.std.proofs.Common.{◌≡◌, drop}
use Rattle.std.specs.Arc.{arc_value}
use Rattle.std.specs.List.{AllByRecursion}
use Rattle.cycle_core.specs.Moving.{processed_in}
use Rattle.object_moves.specs.Moves.{Exists, homes_after}
use Rattle.object_moves.specs.Steps.{AreSteps}
use Rattle.object_moves.proofs.preparing.prepare.Given as goal

abbrev pub invariant-loop-next : goal.invariant-loop-next
invariant-loop-next g l = record {
  steps : AreSteps (processed_in l.fn.world.nodes) l.fn.world.homes l.steps.items (arc_value l.homes);
  homes : homes_after (arc_value l.homes) (drop l.next-index l.fn.moves) ≡ homes_after l.fn.world.homes l.fn.moves;
  exist : AllByRecursion (Exists (arc_value l.homes)) (drop l.next-index l.fn.moves);
  places : l.places ≡ processed_in l.fn.world.nodes;
}
