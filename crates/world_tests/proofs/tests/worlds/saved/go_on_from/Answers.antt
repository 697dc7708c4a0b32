-- The world that goes on stands for the state from which it does.
use Rattle.std.proofs.Common.{sym, subst}
use Rattle.sim_spec.specs.State.{Lawful}
use Rattle.world_tests.proofs.SavedRuns.{state-there}
use Rattle.world_tests.proofs.tests.worlds.saved.go_on_from.Goals as goal

pub from_state-requires-clause-lawful : goal.from_state-requires-clause-lawful
from_state-requires-clause-lawful g c lifetimes outlives =
    let of = g.M.Model.meaning in
    subst (λ v. Lawful (of v) c.args.terms c.args.state) (sym c.in_ok-clone.ensures.cases) c.requires

pub run_on-requires-after_bounds : goal.run_on-requires-after_bounds
run_on-requires-after_bounds g c lifetimes outlives = (_, state-there (g.M.Model.meaning) c.in_ok-world.world _ c.in_ok-world.ensures.stands)
