use Rattle.sim_spec.specs.State.{State}
use Rattle.cycle_core.specs.Worlds.{IsSameWorld, StandsAt}
use Rattle.world_tests.proofs.tests.worlds.saved.run_on.Given as goal

abbrev pub invariant-cycles : goal.invariant-cycles
invariant-cycles g l = record {
  same : IsSameWorld l.initial.world l.world;
  state : (s : State) × StandsAt (g.M.Model.meaning l.world.model) l.world s;
}
