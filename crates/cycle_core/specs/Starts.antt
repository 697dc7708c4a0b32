-- How a world begins: nodes with the states of their objects, and the events that arrive there first.
use Rattle.std.specs.Prelude.{◌≡◌, ℕ, ◌<◌, ◌≤◌, IsTrue, false, List, [], length, map, filter, slice_get, slice_index_or, Some, None}
use Rattle.std.specs.List.{range_with_len}
use Rattle.model_core.specs.declared.event.Event.{Event}
use Rattle.model_core.specs.Meaning.{Meaning}
use Rattle.key_order.specs.Pending.{in_order}
use Rattle.sim_spec.specs.Firing.{ObjectState}
use Rattle.sim_spec.specs.State.{State, Lawful, object_at, start_event}
use Rattle.sim_spec.specs.declared.placement.Placement.{Placement}
use Rattle.sim_spec.specs.declared.terms.Terms.{Terms}
use Rattle.world_spec.specs.Share.{IsHome, is_at}
use Rattle.world_spec.specs.World.{home_by}
use Rattle.node_core.specs.Calls.{IsNewNode}
use Rattle.node_core.specs.Homes.{HomesView, home_of}
use Rattle.node_core.specs.Nodes.{NodeView, home, log_at}
use Rattle.cycle_core.specs.Places.{AtEach}
use Rattle.cycle_core.specs.Worlds.{IsNodeOf, WorldView}

-- the first n initial events
abbrev pub first_events : Meaning → ℕ → List Event
first_events m n = map (start_event m) (range_with_len 0 n)

-- each object has a home
pub record ArePlaced (m : Meaning) (homes : HomesView) : Type 0 where
  pub objects : length homes.homes ≡ m.objects
  pub nodes : (object : ℕ) → object < m.objects → home_of homes object < homes.nodes
  pub some : 0 < homes.nodes

-- each object is on the node where this placement puts it
abbrev pub ArePlacedBy : Placement → HomesView → Type 0
ArePlacedBy placement homes = (object : ℕ) → object < length homes.homes → home_of homes object ≡ home_by placement (length homes.homes) homes.nodes object

-- a chain for each node: those of these events whose home it is
pub record ArePartsOf (homes : HomesView) (es : List Event) (parcels : List (List Event)) : Type 0 where
  pub many : length parcels ≡ homes.nodes
  pub parts : (to : ℕ) → to < homes.nodes → slice_index_or parcels to [] ≡ filter (is_at (home_of homes) to) es

-- a world of these nodes, in which so many events are done
abbrev pub world_with : {M : Type 0} → M → Terms → HomesView → List (NodeView M) → ℕ → WorldView M
world_with model terms homes nodes count = record { model = model; terms = terms; homes = homes; nodes = nodes; count = count; fault = None; is_spent = false }

module _ {M : Type 0} where
  -- the first n nodes of a world, new
  pub record AreNewNodes (m : Meaning) (model : M) (terms : Terms) (homes : HomesView) (n : ℕ) (nodes : List (NodeView M)) : Type 0 where
    pub many : length nodes ≡ n
    pub each : (number : ℕ) (x : NodeView M) → slice_get nodes number ≡ Some x → IsNodeOf model terms homes number x × IsNewNode m x

  -- the objects of a node from this one on have these states, and nothing is processed or waits
  pub record HasStatesFrom (m : Meaning) (from : ℕ) (states : List ObjectState) (n : NodeView M) : Type 0 where
    pub states_are : (object : ℕ) → IsHome m (home n) n.number object → from ≤ object → (log_at n.logs object).state ≡ object_at states object
    pub none : (object : ℕ) → IsHome m (home n) n.number object → (log_at n.logs object).done ≡ []
    pub processed : n.processed ≡ []
    pub waiting : n.waiting ≡ []

module _ {M : Type 0} (meaning_of : M → Meaning) where
  -- all nodes of a world, new
  abbrev pub AreAllNew : M → Terms → HomesView → List (NodeView M) → Type 0
  AreAllNew model terms homes nodes = AreNewNodes (meaning_of model) model terms homes homes.nodes nodes

  -- so it is of all nodes of a world
  pub record HaveStatesFrom (model : M) (terms : Terms) (homes : HomesView) (from : ℕ) (states : List ObjectState) (nodes : List (NodeView M)) : Type 0 where
    pub many : length nodes ≡ homes.nodes
    pub each : AtEach (λ number n. IsNodeOf model terms homes number n × HasStatesFrom (meaning_of model) from states n) nodes

  -- the objects of these nodes can be given these states
  pub record CanSet (model : M) (terms : Terms) (homes : HomesView) (states : List ObjectState) (nodes : List (NodeView M)) : Type 0 where
    pub placed : ArePlaced (meaning_of model) homes
    pub objects : length states ≡ (meaning_of model).objects
    pub cells : (object : ℕ) → object < (meaning_of model).objects → IsTrue ((meaning_of model).lawful object (object_at states object).cells)
    pub new : HaveStatesFrom model terms homes (length states) states nodes

  -- once these parcels have arrived, the world stands for this state
  pub record CanBegin (w : WorldView M) (parcels : List (List Event)) (s : State) : Type 0 where
    pub lawful : Lawful (meaning_of w.model) w.terms s
    pub placed : ArePlaced (meaning_of w.model) w.homes
    pub nodes : HaveStatesFrom w.model w.terms w.homes 0 s.objects w.nodes
    pub events : List Event
    pub pending : s.pending ≡ in_order events
    pub parts : ArePartsOf w.homes events parcels
    pub count : w.count ≡ s.count
    pub none : w.fault ≡ None
    pub awake : w.is_spent ≡ false
