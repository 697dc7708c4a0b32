-- Lists that a cycle fills, before it does.
use Rattle.std.specs.Prelude.{◌≡◌, ℕ, List, [], length}
use Rattle.node_core.specs.declared.committed.Committed.{Committed}
use Rattle.node_core.specs.Blank.{AreEmpty, IsBlank}
use Rattle.cycle_core.specs.declared.lists.Lists.{Lists}
use Rattle.cycle_core.specs.Places.{AtEach}

-- one for each of so many nodes, to be filled
pub record AreBlank (nodes : ℕ) (committed : List Committed) : Type 0 where
  pub many : length committed ≡ nodes
  pub each : AtEach (λ number c. IsBlank nodes c) committed

-- all lists of a cycle of so many nodes, to be filled
pub record AreBlankLists (nodes : ℕ) (lists : Lists) : Type 0 where
  pub committed : AreBlank nodes lists.committed.items
  pub parcels : AreEmpty nodes lists.parcels.items
  pub spare : lists.spare.items ≡ []
