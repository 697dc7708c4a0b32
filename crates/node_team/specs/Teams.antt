-- A team, and the floor of its nodes.
use Rattle.std.specs.Prelude.{ℕ}
use Rattle.model_core.specs.Meaning.{Meaning}
use Rattle.world_spec.specs.Share.{IsHome}
use Rattle.node_core.specs.Nodes.{NodeView, home, pending_at}
use Rattle.cycle_core.specs.Worlds.{WorldView}
use Rattle.node_team.specs.Advances.{AreFrom}

-- its world, and how many events each node processes in a cycle, though they lie past the horizon
pub record TeamView (M : Type 0) : Type 0 where
  pub world : WorldView M
  pub ahead : ℕ

module _ {M : Type 0} where
  -- no event of the node is below the floor by more than one
  abbrev pub IsFloorOf : Meaning → ℕ → NodeView M → Type 0
  IsFloorOf m floor n = (object : ℕ) → IsHome m (home n) n.number object → AreFrom floor (pending_at n.logs n.waiting object)
