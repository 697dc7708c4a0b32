-- Objects that go from node to node of a world.
use Rattle.std.specs.Prelude.{◌≡◌, ℕ, ◌+◌, List, [], ◌∷◌, length, slice_get, Some}
use Rattle.sim_spec.specs.Replay.{events_at}
use Rattle.node_core.specs.Homes.{HomesView, home_of}
use Rattle.node_core.specs.Nodes.{NodeView, slot_at}

module _ {M : Type 0} where
  -- how many events are processed at these nodes
  unfoldable pub processed_in : List (NodeView M) → ℕ
  processed_in [] = 0
  processed_in (n ∷ ns) = length n.processed + processed_in ns

  -- each object has at its new home the log that it had, and the events that waited for it
  pub record IsRearranged (homes homes' : HomesView) (old new : List (NodeView M)) : Type 0 where
    pub logs : (object : ℕ) (x y : NodeView M) → slice_get old (home_of homes object) ≡ Some x → slice_get new (home_of homes' object) ≡ Some y → slot_at y.logs object ≡ slot_at x.logs object
    pub waiting : (object : ℕ) (x y : NodeView M) → slice_get old (home_of homes object) ≡ Some x → slice_get new (home_of homes' object) ≡ Some y → events_at object y.waiting ≡ events_at object x.waiting
