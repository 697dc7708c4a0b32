-- Moves of objects between the nodes of a world, one after another.
use Rattle.std.specs.Prelude.{◌≡◌, ◌<◌, List, [], ◌∷◌, length}
use Rattle.node_core.specs.Homes.{HomesView, rehomed}
use Rattle.cycle_core.specs.Worlds.{WorldView}
use Rattle.object_moves.specs.declared.moves.Move.{Move}

-- its object and its node are there
abbrev pub Exists : HomesView → Move → Type 0
Exists h x = (x.object < length h.homes) × (x.node < h.nodes)

-- the homes after moves: an object is where its last move put it
unfoldable pub homes_after : HomesView → List Move → HomesView
homes_after h [] = h
homes_after h (x ∷ xs) = homes_after (rehomed h x.object x.node) xs

-- what a world keeps where only objects move
pub record IsSameButHomes {M : Type 0} (old new : WorldView M) : Type 0 where
  pub model : new.model ≡ old.model
  pub terms : new.terms ≡ old.terms
  pub nodes : new.homes.nodes ≡ old.homes.nodes
  pub count : new.count ≡ old.count
  pub fault : new.fault ≡ old.fault
  pub is_spent : new.is_spent ≡ old.is_spent
