-- What many nodes stand for together.
use Rattle.std.specs.Prelude.{◌≡◌, ◌⊎◌, ℕ, ◌<◌, ◌≤◌, ◌*◌, ◌/◌, ◌%◌, Contains, Option, Some}
use Rattle.event_key.specs.declared.key.Key.{Key}
use Rattle.event_key.specs.Stamps.{end_stamp}
use Rattle.model_core.specs.declared.event.Event.{Event}
use Rattle.model_core.specs.Meaning.{Meaning}
use Rattle.sim_spec.specs.declared.placement.Placement.{Placement}
use Rattle.sim_spec.specs.declared.placement.Placement.TheVariants.{Round, Block}
use Rattle.sim_spec.specs.declared.stop.Stop.TheVariants.{Fault}
use Rattle.sim_spec.specs.declared.terms.Terms.{Terms}
use Rattle.sim_spec.specs.State.{State, Lawful}
use Rattle.sim_spec.specs.Run.{next, stops}
use Rattle.sim_spec.specs.Cut.{emissions_of}
use Rattle.sim_spec.specs.Replay.{EmitsFrom}
use Rattle.world_spec.specs.Share.{Share, IsHome, IsShareOf, NodeData, StandsFor}
use Rattle.world_spec.specs.Moves.{IsIdle}

-- the node of an object
abbrev pub home_by : Placement → ℕ → ℕ → ℕ → ℕ
home_by Round objects nodes object = object % nodes
home_by Block objects nodes object = object * nodes / objects

-- each object has a node
abbrev pub PlacementLaw : Type 0
PlacementLaw = (placement : Placement) (objects nodes object : ℕ) → 1 ≤ nodes → object < objects → home_by placement objects nodes object < nodes

-- what a node was made with
pub record Setting : Type 0 where
  pub model : Meaning
  pub terms : Terms
  pub nodes : ℕ
  pub home : ℕ → ℕ

pub record IsMadeFor (m : Meaning) (t : Terms) (home : ℕ → ℕ) (nodes : ℕ) (made : Setting) : Type 0 where
  pub model : made.model ≡ m
  pub terms : made.terms ≡ t
  pub number : made.nodes ≡ nodes
  pub homes : (object : ℕ) → object < m.objects → made.home object ≡ home object

-- what a world holds: its nodes, how many events are done, and the fault that it keeps
pub record WorldData : Type 0 where
  pub made : ℕ → Setting
  pub node : ℕ → NodeData
  pub count : ℕ
  pub fault : Option (Key × ℕ)

-- a world stands for a state, and each object is so far ahead of it
pub record WorldStands (m : Meaning) (t : Terms) (home : ℕ → ℕ) (nodes : ℕ) (s : State) (shares : ℕ → Share) (ahead : ℕ → ℕ) (world : WorldData) : Type 0 where
  pub lawful : Lawful m t s
  pub homes : (object : ℕ) → object < m.objects → home object < nodes
  pub made : (node : ℕ) → node < nodes → IsMadeFor m t home nodes (world.made node)
  pub shares_of : (node : ℕ) → node < nodes → IsShareOf m home s node (shares node)
  pub stands : (node : ℕ) → node < nodes → StandsFor m t home node (shares node) ahead (world.node node)
  pub count : world.count ≡ s.count
  pub fault : (fault : Key × ℕ) → world.fault ≡ Some fault → next m t s ≡ stops (Fault fault.0 fault.1)

-- some node holds a message with this stamp
abbrev pub IsHeldIn : Meaning → (ℕ → ℕ) → ℕ → (ℕ → NodeData) → ℕ → Type 0
IsHeldIn m home nodes held stamp =
    (node : ℕ) × (node < nodes) × (object : ℕ) × IsHome m home node object × (e : Event) × Contains (emissions_of ((held node).log object).done) e × (e.key.stamp ≡ stamp)

-- a world is closed at a bound: every node is idle below it, and it is the least stamp that they hold, or the end
pub record WorldIsClosed (m : Meaning) (t : Terms) (home : ℕ → ℕ) (nodes : ℕ) (held : ℕ → NodeData) (bound : ℕ) : Type 0 where
  pub reached : (bound ≡ end_stamp t.end) ⊎ IsHeldIn m home nodes held bound
  pub within : bound ≤ end_stamp t.end
  pub holds : (node object : ℕ) → node < nodes → IsHome m home node object → EmitsFrom bound ((held node).log object).done
  pub idle : (node : ℕ) → node < nodes → IsIdle m home node bound (held node)
