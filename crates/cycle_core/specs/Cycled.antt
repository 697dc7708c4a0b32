-- What a cycle does to a world, from each state that it stands for.
use Rattle.std.specs.Prelude.{◌≡◌, ℕ, List}
use Rattle.model_core.specs.Meaning.{Meaning}
use Rattle.sim_spec.specs.declared.bucket.Bucket.{Bucket}
use Rattle.sim_spec.specs.Cut.{after, committed_events, cut}
use Rattle.sim_spec.specs.State.{State}
use Rattle.world_spec.specs.World.{WorldIsClosed}
use Rattle.node_core.specs.Homes.{home_of}
use Rattle.node_core.specs.Nodes.{NodeView}
use Rattle.cycle_core.specs.Carries.{AllCarry}
use Rattle.cycle_core.specs.Works.{AllWorkOn}
use Rattle.cycle_core.specs.Worlds.{WorldView, StandsAt, data_at}

module _ {M : Type 0} (meaning_of : M → Meaning) where
  -- with these nodes a cycle of the world is closed at this bound
  abbrev pub IsClosedAt : WorldView M → List (NodeView M) → ℕ → Type 0
  IsClosedAt w nodes bound = WorldIsClosed (meaning_of w.model) w.terms (home_of w.homes) w.homes.nodes (data_at nodes) bound

  -- the bucket is the one that comes next
  abbrev pub IsBucketOf : WorldView M → Bucket → Type 0
  IsBucketOf w bucket = (s : State) → StandsAt (meaning_of w.model) w s → bucket ≡ cut (meaning_of w.model) w.terms s

  -- the world stands for the state after that bucket
  abbrev pub StandsAfter : WorldView M → WorldView M → Type 0
  StandsAfter old new =
      (s : State) → StandsAt (meaning_of old.model) old s
      → StandsAt (meaning_of old.model) new (after (meaning_of old.model) old.terms s)

  -- each node carries on what that bucket leaves it
  abbrev pub CarriesOn : WorldView M → WorldView M → Type 0
  CarriesOn old new =
      (s : State) → StandsAt (meaning_of old.model) old s
      → AllCarry meaning_of s (committed_events (meaning_of old.model) old.terms s) old.nodes new.nodes

  -- so it is of nodes that worked before it was closed
  abbrev pub CarriesOnFrom : WorldView M → WorldView M → Type 0
  CarriesOnFrom old new =
      (firsts : List (NodeView M)) → AllWorkOn meaning_of firsts old.nodes → (s : State) → StandsAt (meaning_of old.model) old s
      → AllCarry meaning_of s (committed_events (meaning_of old.model) old.terms s) firsts new.nodes
