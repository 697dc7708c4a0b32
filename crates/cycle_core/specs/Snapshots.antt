-- What is read out of the nodes of a world.
use Rattle.std.specs.Prelude.{◌≡◌, ℕ, ◌<◌, List, [], ◌∷◌, ◌++◌, length, slice_get, Some}
use Rattle.model_core.specs.declared.event.Event.{Event}
use Rattle.model_core.specs.Meaning.{Meaning}
use Rattle.sim_spec.specs.Firing.{ObjectState}
use Rattle.key_order.specs.Keys.{KeysDiffer}
use Rattle.key_order.specs.Pending.{in_order}
use Rattle.sim_spec.specs.State.{State, object_at}
use Rattle.sim_spec.specs.declared.terms.Terms.{Terms}
use Rattle.world_spec.specs.Share.{Share}
use Rattle.node_core.specs.Homes.{HomesView, home_of}
use Rattle.node_core.specs.Nodes.{NodeView, Stands, IsAsBefore, IsSameNode, log_at}
use Rattle.cycle_core.specs.Places.{EachPair}
use Rattle.cycle_core.specs.Worlds.{AreNodesOf}

module _ {M : Type 0} where
  -- the events that wait, one node after another
  unfoldable pub waiting_in : List (NodeView M) → List Event
  waiting_in [] = []
  waiting_in (n ∷ ns) = n.waiting ++ waiting_in ns

  -- nothing is processed any more, and the node stands for what it stood for
  pub record IsUndone (m : Meaning) (old new : NodeView M) : Type 0 where
    pub same : IsSameNode old new
    pub none : (object : ℕ) → (log_at new.logs object).done ≡ []
    pub stands : (share : Share) (ahead : ℕ → ℕ) → Stands m old share ahead → Stands m new share (λ object. 0)

  abbrev pub AllUndone : (M → Meaning) → List (NodeView M) → List (NodeView M) → Type 0
  AllUndone meaning_of = EachPair (λ old new. IsUndone (meaning_of old.model) old new)

  -- the states of the first so many objects, as their nodes have them
  pub record AreStatesOf (homes : HomesView) (nodes : List (NodeView M)) (count : ℕ) (states : List ObjectState) : Type 0 where
    pub many : length states ≡ count
    pub each : (object : ℕ) (n : NodeView M) → object < count → slice_get nodes (home_of homes object) ≡ Some n → object_at states object ≡ (log_at n.logs object).state

  -- what was processed at these nodes was undone, and then they were read
  pub record AreRead (meaning_of : M → Meaning) (old new : List (NodeView M)) : Type 0 where
    pub mids : List (NodeView M)
    pub undone : AllUndone meaning_of old mids
    pub same : EachPair IsAsBefore mids new

  -- this is the state that was read, in which so many events are done
  pub record IsReadOf (meaning_of : M → Meaning) (model : M) (homes : HomesView) (count : ℕ) (old new : List (NodeView M)) (s : State) : Type 0 where
    pub read : AreRead meaning_of old new
    pub states : AreStatesOf homes new (meaning_of model).objects s.objects
    pub pending : s.pending ≡ in_order (waiting_in read.mids)
    pub count_is : s.count ≡ count

  -- a state can be read out of these nodes
  pub record CanBeRead (meaning_of : M → Meaning) (model : M) (homes : HomesView) (old : List (NodeView M)) : Type 0 where
    pub differ : (mids : List (NodeView M)) → AllUndone meaning_of old mids → KeysDiffer (waiting_in mids)
    pub nodes : (new : List (NodeView M)) → AreRead meaning_of old new → (terms : Terms) × AreNodesOf model terms homes new
    pub placed : (object : ℕ) → object < (meaning_of model).objects → home_of homes object < homes.nodes
