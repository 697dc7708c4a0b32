-- A cycle that is closed, before anything is committed.
use Rattle.std.specs.Prelude.{◌≡◌, ℕ, List}
use Rattle.model_core.specs.Meaning.{Meaning}
use Rattle.sim_spec.specs.State.{State}
use Rattle.node_core.specs.Nodes.{NodeView}
use Rattle.cycle_core.specs.Cycled.{IsClosedAt}
use Rattle.cycle_core.specs.Works.{AllWorkOn}
use Rattle.cycle_core.specs.Worlds.{WorldView, StandsAt}
use Rattle.node_team.specs.Forks.{AllHaveRun}

module _ {M : Type 0} (meaning_of : M → Meaning) where
  -- the nodes have run so deep and then worked on until the cycle is closed at this bound, and the world stands for what it
  -- stood for
  pub record HasClosed (ahead : ℕ) (old new : WorldView M) (bound : ℕ) : Type 0 where
    pub mids : List (NodeView M)
    pub run : AllHaveRun meaning_of ahead old.nodes mids
    pub works : AllWorkOn meaning_of mids new.nodes
    pub world : new ≡ record old { nodes = new.nodes }
    pub closed : IsClosedAt meaning_of old new.nodes bound
    pub stands : (s : State) → StandsAt (meaning_of old.model) old s → StandsAt (meaning_of new.model) new s
