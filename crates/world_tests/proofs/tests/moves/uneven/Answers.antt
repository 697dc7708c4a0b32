-- A world stands for the state that it begins with.
use Rattle.cycle_core.specs.Standings.{WorldStandsAt}
use Rattle.world_tests.proofs.tests.moves.uneven.Goals as goal

pub returns : goal.returns
unfolding WorldStandsAt
returns c = (_, c.in_ok-begin.ensures.stands.0)
