-- Worlds from which a run goes on.
use Rattle.std.specs.Prelude.{None}
use Rattle.model_core.specs.Meaning.{Meaning}
use Rattle.sim_spec.specs.Standing.{stands}
use Rattle.sim_spec.specs.State.{State}
use Rattle.cycle_core.specs.Standings.{WorldStandsAt}
use Rattle.cycle_core.specs.Worlds.{StandsAt, WorldView}

-- a world that stands for a state with no fault kept stands for it
pub state-there : {M : Type 0} (of : M → Meaning) (w : WorldView M) (s : State) → WorldStandsAt of w (stands s None) → StandsAt (of w.model) w s
unfolding WorldStandsAt
state-there of w s there = there.0
