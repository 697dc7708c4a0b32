-- The first moves are made.
use Rattle.std.proofs.Common.{◌≡◌, []}
use Rattle.sim_spec.specs.State.{State}
use Rattle.cycle_core.specs.Moving.{processed_in}
use Rattle.cycle_core.specs.Worlds.{StandsAt}
use Rattle.object_moves.specs.Moves.{homes_after}
use Rattle.object_moves.specs.Steps.{AreSteps}
use Rattle.object_moves.proofs.moving.move_objects.Given as goal

abbrev pub invariant-loop-step : goal.invariant-loop-step
invariant-loop-step g l = record {
  world : l.world ≡ record l.fn.world { nodes = []; homes = l.world.homes };
  nodes : l.world.homes.nodes ≡ l.fn.world.homes.nodes;
  stands : (s : State) → StandsAt (g.M.Model.meaning l.fn.world.model) l.fn.world s
      → StandsAt (g.M.Model.meaning l.fn.world.model) (record l.fn.world { nodes = l.nodes.items; homes = l.world.homes }) s;
  steps : AreSteps (processed_in l.fn.world.nodes) l.world.homes l.step-iterator.rest.items (homes_after l.fn.world.homes l.fn.moves);
  processed : processed_in l.nodes.items ≡ processed_in l.fn.world.nodes;
}
