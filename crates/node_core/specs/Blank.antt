-- What a commit fills, before it does.
use Rattle.std.specs.Prelude.{◌≡◌, ℕ, List, [], length, slice_index_or}
use Rattle.model_core.specs.declared.event.Event.{Event}
use Rattle.node_core.specs.declared.committed.Committed.{Committed}

-- an empty chain for each of so many nodes
pub record AreEmpty (nodes : ℕ) (parcels : List (List Event)) : Type 0 where
  pub many : length parcels ≡ nodes
  pub empty : (to : ℕ) → slice_index_or parcels to [] ≡ []

-- nothing is told, and there is an empty chain for each node
pub record IsBlank (nodes : ℕ) (c : Committed) : Type 0 where
  pub told : c.done.items ≡ []
  pub long : length c.out.items ≡ nodes
  pub empty : (to : ℕ) → slice_index_or c.out.items to [] ≡ []
