-- Moves with all that they take.
use Rattle.std.specs.Prelude.{◌≡◌, ◌≢◌, ℕ, ◌+◌, ◌<◌, ◌≤◌, List, [], ◌∷◌, length}
use Rattle.model_core.specs.Meaning.{Meaning}
use Rattle.sim_spec.specs.State.{State}
use Rattle.node_core.specs.Homes.{HomesView, home_of, rehomed}
use Rattle.node_core.specs.Nodes.{NodeView}
use Rattle.cycle_core.specs.Moving.{processed_in}
use Rattle.cycle_core.specs.Worlds.{WorldView, StandsAt}
use Rattle.object_moves.specs.declared.step.Step.{Step}

-- a move from these homes, to another node, with room for so many events and all objects
pub record IsStep (places : ℕ) (h : HomesView) (p : Step) : Type 0 where
  pub object : p.object < length h.homes
  pub from : home_of h p.object ≡ p.from
  pub there : p.from < h.nodes
  pub to : p.to < h.nodes
  pub apart : p.from ≢ p.to
  pub after : p.copies.homes ≡ rehomed h p.object p.to
  pub copies : p.copies.left ≡ h.nodes + 2
  pub room : places ≤ p.room.events
  pub objects : length h.homes ≤ p.room.places

-- moves from the first homes to the last
unfoldable pub AreSteps : ℕ → HomesView → List Step → HomesView → Type 0
AreSteps places h [] end = h ≡ end
AreSteps places h (p ∷ ps) end = IsStep places h p × AreSteps places p.copies.homes ps end

module _ {M : Type 0} (meaning_of : M → Meaning) where
  -- these are the nodes of a world that stands for a state, and the move is one from its homes
  pub record CanMake (p : Step) (nodes : List (NodeView M)) : Type 0 where
    pub world : WorldView M
    pub state : State
    pub nodes_are : world.nodes ≡ nodes
    pub stands : StandsAt (meaning_of world.model) world state
    pub step : IsStep (processed_in nodes) world.homes p

  -- each world with these nodes stands for the same state after the move
  abbrev pub KeepsWorlds : Step → List (NodeView M) → List (NodeView M) → Type 0
  KeepsWorlds p old new =
      (w : WorldView M) (s : State) → w.nodes ≡ old → IsStep (processed_in old) w.homes p → StandsAt (meaning_of w.model) w s
      → StandsAt (meaning_of w.model) (record w { nodes = new; homes = p.copies.homes }) s
