-- A whole cycle over many nodes: Breathing Time Buckets with processed events carried from cycle to cycle
-- (Steinman, "SPEEDES: A Multiple-Synchronization Environment for Parallel Discrete-Event Simulation", 1992, and
-- "Breathing Time Warp", 1993).
use Rattle.std.specs.Prelude.{◌≡◌, ℕ, ◌+◌, ◌<◌, ◌≤◌, List, length, IsPermutation}
use Rattle.std.specs.List.{AllByRecursion}
use Rattle.event_key.specs.declared.key.Key.{Key}
use Rattle.event_key.specs.Stamps.{end_stamp}
use Rattle.model_core.specs.declared.event.Event.{Event}
use Rattle.model_core.specs.declared.note.Note.{Note}
use Rattle.model_core.specs.Meaning.{Meaning}
use Rattle.sim_spec.specs.declared.terms.Terms.{Terms}
use Rattle.sim_spec.specs.Firing.{Firing}
use Rattle.sim_spec.specs.State.{State, Lawful}
use Rattle.sim_spec.specs.Cut.{committed_events, cut, after, records_of}
use Rattle.key_order.specs.Ascending.{Ascends}
use Rattle.world_spec.specs.Early.{RunsAhead, kept}
use Rattle.world_spec.specs.Closed.{cut_key, IsCycleOf}
use Rattle.world_spec.specs.Share.{Share, NodeData}
use Rattle.world_spec.specs.Moves.{Steps, received, committed, committed_ahead, IsDueDone, IsCommit, IsReceipt}
use Rattle.world_spec.specs.Parcels.{done_of, parcels, records_by_node, IsHandedOut}
use Rattle.world_spec.specs.World.{WorldData, WorldStands, WorldIsClosed}

-- a node's share of the next state, and how far its objects are ahead of it then
abbrev pub next_share : Meaning → Terms → State → ℕ → Share → List Event → Share
next_share m t s bound share es = received es (committed m bound (cut_key m t s) share)

-- the end of a cycle: every node commits what is due, receives in any order what was sent to it and rolls back by
-- itself; the count of the events and the fault of the cut are kept
pub record EndsCycle (m : Meaning) (t : Terms) (home : ℕ → ℕ) (nodes : ℕ) (s : State) (shares : ℕ → Share) (ahead : ℕ → ℕ) (bound : ℕ) (es : ℕ → List Event) (old new : WorldData) : Type 0 where
  pub mid : ℕ → NodeData
  pub commits : (node : ℕ) → node < nodes → IsCommit m home node bound (cut_key m t s) (shares node) (old.node node) (mid node)
  pub arrivals : (node : ℕ) → node < nodes → IsPermutation (parcels home (committed_events m t s) node nodes) (es node)
  pub receipts : (node : ℕ) → node < nodes
      → IsReceipt m home node (es node) (committed m bound (cut_key m t s) (shares node)) (committed_ahead bound (cut_key m t s) (shares node) ahead) (mid node) (new.node node)
  pub made : (node : ℕ) → node < nodes → new.made node ≡ old.made node
  pub count : new.count ≡ old.count + length (committed_events m t s)
  pub fault : new.fault ≡ (cut m t s).fault

-- one cycle: the bound gives the bucket; what each node commits is processed, and it hands out its part of the bucket;
-- all parts in order are the records of the bucket; and in the end the world stands for the next state, with the other processed
-- events carried
pub record IsCycle (m : Meaning) (t : Terms) (home : ℕ → ℕ) (nodes : ℕ) (s : State) (shares : ℕ → Share) (ahead : ℕ → ℕ) (world : WorldData) (bound : ℕ) : Type 0 where
  pub bucket : IsCycleOf m t s ahead bound
  pub due : (node : ℕ) → node < nodes → IsDueDone m home node bound (cut_key m t s) (world.node node)
  pub handed : (node : ℕ) → node < nodes → (done : List (Event × Firing)) → IsHandedOut m home node bound (cut_key m t s) (world.node node) done
      → done ≡ done_of home node (committed_events m t s)
  pub records : (merged : List (Key × Note)) → IsPermutation (records_by_node home (committed_events m t s) nodes) merged → Ascends (λ (x : Key × Note). x.0) merged
      → merged ≡ records_of (committed_events m t s)
  pub next : (es : ℕ → List Event) (new : WorldData) → EndsCycle m t home nodes s shares ahead bound es world new
      → WorldStands m t home nodes (after m t s) (λ node. next_share m t s bound (shares node) (es node)) (kept s (committed_events m t s) ahead) new

abbrev pub WorldLaw : Meaning → Terms → Type 0
WorldLaw m t =
    (home : ℕ → ℕ) (nodes : ℕ) (s : State) (shares : ℕ → Share) (ahead : ℕ → ℕ) (world : WorldData) (bound : ℕ)
    → WorldStands m t home nodes s shares ahead world → WorldIsClosed m t home nodes world.node bound → IsCycle m t home nodes s shares ahead world bound

-- the nodes of a world make steps, each below a bound that was read before it, and nothing else changes
pub record WorldSteps (m : Meaning) (t : Terms) (home : ℕ → ℕ) (nodes : ℕ) (old new : WorldData) : Type 0 where
  pub bounds : ℕ → List ℕ
  pub within : (node : ℕ) → node < nodes → AllByRecursion (λ (bound : ℕ). bound ≤ end_stamp t.end) (bounds node)
  pub steps : (node : ℕ) → node < nodes → Steps m home node (bounds node) (old.node node) (new.node node)
  pub made : (node : ℕ) → node < nodes → new.made node ≡ old.made node
  pub count : new.count ≡ old.count
  pub fault : new.fault ≡ old.fault

-- however many steps were made, and whatever bounds were read before them, the world stands for the same state with no
-- object less far ahead, and a bound at which it is closed, though lower, gives the same bucket
pub record IsUnharmed (m : Meaning) (t : Terms) (home : ℕ → ℕ) (nodes : ℕ) (s : State) (shares : ℕ → Share) (ahead : ℕ → ℕ) (world : WorldData) : Type 0 where
  pub ahead_now : ℕ → ℕ
  pub further : (object : ℕ) → object < m.objects → ahead object ≤ ahead_now object
  pub stands : WorldStands m t home nodes s shares ahead_now world
  pub cycle : (bound : ℕ) → WorldIsClosed m t home nodes world.node bound → IsCycle m t home nodes s shares ahead_now world bound

abbrev pub WorldStepsLaw : Meaning → Terms → Type 0
WorldStepsLaw m t =
    (home : ℕ → ℕ) (nodes : ℕ) (s : State) (shares : ℕ → Share) (ahead : ℕ → ℕ) (old new : WorldData)
    → WorldStands m t home nodes s shares ahead old → WorldSteps m t home nodes old new → IsUnharmed m t home nodes s shares ahead new

-- a world that stands for a state, with each object as far ahead as it may be
pub record HasWorld (m : Meaning) (t : Terms) (home : ℕ → ℕ) (nodes : ℕ) (s : State) (ahead : ℕ → ℕ) : Type 0 where
  pub shares : ℕ → Share
  pub world : WorldData
  pub stands : WorldStands m t home nodes s shares ahead world

abbrev pub WorldsLaw : Meaning → Terms → Type 0
WorldsLaw m t =
    (home : ℕ → ℕ) (nodes : ℕ) (s : State) (ahead : ℕ → ℕ) → Lawful m t s → ((object : ℕ) → object < m.objects → home object < nodes)
    → RunsAhead m t s ahead → HasWorld m t home nodes s ahead

-- steps that close a world
pub record CanClose (m : Meaning) (t : Terms) (home : ℕ → ℕ) (nodes : ℕ) (world : WorldData) : Type 0 where
  pub new : WorldData
  pub steps : WorldSteps m t home nodes world new
  pub bound : ℕ
  pub closed : WorldIsClosed m t home nodes new.node bound

abbrev pub ClosesLaw : Meaning → Terms → Type 0
ClosesLaw m t =
    (home : ℕ → ℕ) (nodes : ℕ) (s : State) (shares : ℕ → Share) (ahead : ℕ → ℕ) (world : WorldData)
    → WorldStands m t home nodes s shares ahead world → CanClose m t home nodes world

-- a cycle that is closed can be ended, whatever the order of arrival
pub record CanEnd (m : Meaning) (t : Terms) (home : ℕ → ℕ) (nodes : ℕ) (s : State) (shares : ℕ → Share) (ahead : ℕ → ℕ) (bound : ℕ) (es : ℕ → List Event) (world : WorldData) : Type 0 where
  pub new : WorldData
  pub ends : EndsCycle m t home nodes s shares ahead bound es world new

abbrev pub EndsLaw : Meaning → Terms → Type 0
EndsLaw m t =
    (home : ℕ → ℕ) (nodes : ℕ) (s : State) (shares : ℕ → Share) (ahead : ℕ → ℕ) (world : WorldData) (bound : ℕ) (es : ℕ → List Event)
    → WorldStands m t home nodes s shares ahead world → WorldIsClosed m t home nodes world.node bound
    → ((node : ℕ) → node < nodes → IsPermutation (parcels home (committed_events m t s) node nodes) (es node))
    → CanEnd m t home nodes s shares ahead bound es world
