-- What nodes have processed, one node after another, and their faults.
use Rattle.std.specs.Prelude.{◌≡◌, ℕ, ◌+◌, ◌<◌, ◌≤◌, List, [], ◌∷◌, ◌++◌, length, filter, nat_lt, slice_get, Some, Contains}
use Rattle.event_key.specs.declared.key.Key.{Key}
use Rattle.model_core.specs.Meaning.{Meaning}
use Rattle.world_spec.specs.Share.{IsHome}
use Rattle.model_core.specs.declared.event.Event.{Event}
use Rattle.node_core.specs.Calls.{HasKey}
use Rattle.node_core.specs.Nodes.{NodeView, home, data_of, pending_at}
use Rattle.cycle_core.specs.Places.{AtEach}

abbrev pub itself : Key → Key
itself k = k

abbrev pub fault_key : Key × ℕ → Key
fault_key fault = fault.0

module _ {M : Type 0} where
  -- the keys of the processed events below a bound
  unfoldable pub keys_in : ℕ → List (NodeView M) → List Key
  keys_in bound [] = []
  keys_in bound (n ∷ ns) = filter (λ (k : Key). nat_lt k.stamp bound) n.processed ++ keys_in bound ns

  -- how many processed events there are
  unfoldable pub processed_in : List (NodeView M) → ℕ
  processed_in [] = 0
  processed_in (n ∷ ns) = length n.processed + processed_in ns

module _ {M : Type 0} (meaning_of : M → Meaning) where
  -- an object of the node met a fault below the bound
  abbrev pub MayFaultBelow : ℕ → NodeView M → Key × ℕ → Type 0
  MayFaultBelow bound n fault =
      ((object : ℕ) × IsHome (meaning_of n.model) (home n) n.number object × (((data_of n).log object).fault ≡ Some fault)) × (fault.0.stamp < bound)

  -- the object at which the event was met it
  abbrev pub IsFaultBelow : ℕ → NodeView M → Key × ℕ → Type 0
  IsFaultBelow bound n fault =
      (IsHome (meaning_of n.model) (home n) n.number fault.0.dest × (((data_of n).log fault.0.dest).fault ≡ Some fault)) × (fault.0.stamp < bound)

  -- the node has an event with this key
  abbrev pub HasKeyOf : NodeView M → Key → Type 0
  HasKeyOf n key = HasKey (meaning_of n.model) n key

  -- an event of one of its objects has it
  abbrev pub MayKeyOf : NodeView M → Key → Type 0
  MayKeyOf n key =
      (object : ℕ) × IsHome (meaning_of n.model) (home n) n.number object
      × (e : Event) × Contains (pending_at n.logs n.waiting object) e × (e.key ≡ key)

  -- the node has an event whose stamp is below the bound
  abbrev pub HasEventBefore : ℕ → NodeView M → Type 0
  HasEventBefore bound n = (key : Key) × HasKeyOf n key × (key.stamp < bound)

  -- it has none
  abbrev pub HasNoneBefore : ℕ → NodeView M → Type 0
  HasNoneBefore bound n = (key : Key) → MayKeyOf n key → bound ≤ key.stamp

  -- some node has one
  abbrev pub HaveEventBefore : ℕ → List (NodeView M) → Type 0
  HaveEventBefore bound nodes = (number : ℕ) × (n : NodeView M) × (slice_get nodes number ≡ Some n) × HasEventBefore bound n

  -- no node has one
  abbrev pub HaveNoneBefore : ℕ → List (NodeView M) → Type 0
  HaveNoneBefore bound = AtEach (λ number n. HasNoneBefore bound n)
