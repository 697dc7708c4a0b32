-- A world at the start stands for its first state.
use Rattle.world_tests.proofs.SavedRuns.{state-there}
use Rattle.world_tests.proofs.tests.worlds.saved.done_whole.Goals as goal

pub run_on-requires-after_bounds : goal.run_on-requires-after_bounds
run_on-requires-after_bounds g c lifetimes outlives = (_, state-there (g.M.Model.meaning) c.in_ok-world.world _ c.in_ok-world.ensures.stands)
