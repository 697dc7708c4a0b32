-- What a node does at the end of a cycle.
use Rattle.std.specs.Prelude.{◌≡◌, ℕ, ◌+◌, ◌^◌, ◌<◌, ◌≤◌, List, [], ◌∷◌, ◌++◌, length, slice_get, slice_index_or, Option, Some}
use Rattle.std.specs.List.{AllByRecursion}
use Rattle.event_key.specs.declared.key.Key.{Key}
use Rattle.model_core.specs.declared.event.Event.{Event}
use Rattle.model_core.specs.declared.note.Note.{Note}
use Rattle.model_core.specs.Meaning.{Meaning}
use Rattle.key_order.specs.Ascending.{IsAscending}
use Rattle.key_order.specs.Pending.{enqueue_all}
use Rattle.sim_spec.specs.Replay.{events_at}
use Rattle.world_spec.specs.Share.{IsHome, IsAtHome}
use Rattle.world_spec.specs.Moves.{IsDueDone}
use Rattle.node_core.specs.declared.committed.Committed.{Committed}
use Rattle.node_core.specs.Nodes.{NodeView, home, data_of, pending_at, IsAsBefore}
use Rattle.node_core.specs.Calls.{HasCommitted, HasReceived}
use Rattle.cycle_core.specs.Places.{AtEach}

module _ {M : Type 0} where
  -- it commits what is due, and then receives these events
  pub record NodeEnds (m : Meaning) (bound : ℕ) (cut : Option Key) (es : List Event) (old new : NodeView M) : Type 0 where
    pub mid : NodeView M
    pub records : List (Key × Note)
    pub out : List (List Event)
    pub commits : HasCommitted m bound cut old mid records out
    pub roomy : NodeView M
    pub room : IsAsBefore mid roomy
    pub count : ℕ
    pub receives : HasReceived m es roomy new count

  -- so does each node
  pub record AllEnd (meaning_of : M → Meaning) (bound : ℕ) (cut : Option Key) (es : ℕ → List Event) (old new : List (NodeView M)) : Type 0 where
    pub many : length new ≡ length old
    pub each : (number : ℕ) (x y : NodeView M) → slice_get old number ≡ Some x → slice_get new number ≡ Some y
        → NodeEnds (meaning_of x.model) bound cut (es number) x y

module _ {M : Type 0} (meaning_of : M → Meaning) where
  -- what is due at these nodes is done
  abbrev pub AreDueDone : ℕ → Option Key → List (NodeView M) → Type 0
  AreDueDone bound cut = AtEach (λ number n. IsDueDone (meaning_of n.model) (home n) n.number bound cut (data_of n))

  -- the first so many nodes committed what was due, and each handed this out
  pub record CommitUpto (bound : ℕ) (cut : Option Key) (place : ℕ) (old new : List (NodeView M)) (all : List Committed) : Type 0 where
    pub many : length new ≡ length old
    pub count : length all ≡ length old
    pub each : (number : ℕ) (x y : NodeView M) (c : Committed) → number < place
        → slice_get old number ≡ Some x → slice_get new number ≡ Some y → slice_get all number ≡ Some c
        → HasCommitted (meaning_of x.model) bound cut x y c.done.items c.out.items
    pub rest : (number : ℕ) → place ≤ number → slice_get new number ≡ slice_get old number

  -- a node can receive these events
  pub record CanReceive (es : List Event) (n : NodeView M) : Type 0 where
    pub homed : AllByRecursion (IsAtHome (meaning_of n.model) (home n) n.number) es
    pub keys : (object : ℕ) → IsHome (meaning_of n.model) (home n) n.number object
        → IsAscending (enqueue_all (events_at object es) (pending_at n.logs n.waiting object))
    pub few : length es + length n.processed + length n.waiting < 2 ^ 60

  -- it has received them
  pub record Receives (es : List Event) (old new : NodeView M) : Type 0 where
    pub roomy : NodeView M
    pub room : IsAsBefore old roomy
    pub count : ℕ
    pub receives : HasReceived (meaning_of old.model) es roomy new count

  -- each of these nodes can receive its events
  abbrev pub AllCanReceive : List (List Event) → List (NodeView M) → Type 0
  AllCanReceive parcels nodes =
      (number : ℕ) (n : NodeView M) (es : List Event) → slice_get nodes number ≡ Some n → slice_get parcels number ≡ Some es
      → CanReceive es n

  -- the first so many have received them
  pub record ReceiveUpto (place : ℕ) (parcels : List (List Event)) (old new : List (NodeView M)) : Type 0 where
    pub many : length new ≡ length old
    pub each : (number : ℕ) (x y : NodeView M) (es : List Event) → number < place
        → slice_get old number ≡ Some x → slice_get new number ≡ Some y → slice_get parcels number ≡ Some es → Receives es x y
    pub rest : (number : ℕ) → place ≤ number → slice_get new number ≡ slice_get old number

-- what these hand out to a node, one after another
unfoldable pub sent_to : ℕ → List Committed → List Event
sent_to to [] = []
sent_to to (c ∷ cs) = slice_index_or c.out.items to [] ++ sent_to to cs

-- what these tell, one after another
unfoldable pub told_by : List Committed → List (Key × Note)
told_by [] = []
told_by (c ∷ cs) = c.done.items ++ told_by cs

-- what a commit sends, node by node
abbrev pub sent_in : Committed → List (List Event)
sent_in c = c.out.items
