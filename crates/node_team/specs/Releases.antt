-- What the ends of nodes post, and what comes to them.
use Rattle.std.specs.Prelude.{◌≡◌, ℕ, ◌<◌, All, List, [], length, map, slice_get, slice_index_or, Option, Some, IsPermutation}
use Rattle.std.specs.List.{range_with_len}
use Rattle.event_key.specs.declared.key.Key.{Key}
use Rattle.model_core.specs.declared.event.Event.{Event}
use Rattle.model_core.specs.Meaning.{Meaning}
use Rattle.release_lanes.specs.declared.lanes.NodeEnd.{Ghosts as NodeEnd}
use Rattle.parcel_exchange.specs.declared.inbox.Inbox.{Inbox}
use Rattle.parcel_exchange.specs.Exchange.{HasExchanged}
use Rattle.node_core.specs.declared.committed.Committed.{Committed}
use Rattle.node_core.specs.Nodes.{NodeView}
use Rattle.cycle_core.specs.Ends.{CommitUpto, sent_to}
use Rattle.cycle_core.specs.Places.{AtEach}
use Rattle.cycle_core.specs.Sendings.{HasSent, HaveSent}

abbrev pub arrived_in : Inbox → List Event
arrived_in inbox = inbox.arrived

-- an inbox for each of so many nodes, with nothing in it
pub record AreClear (nodes : ℕ) (inboxes : List Inbox) : Type 0 where
  pub many : length inboxes ≡ nodes
  pub early : AtEach (λ place inbox. inbox.early.items ≡ []) inboxes
  pub arrived : AtEach (λ place inbox. inbox.arrived ≡ []) inboxes

module _ {E : Type 0} (lanes : NodeEnd E) where
  -- the ends of so many nodes, in their order, of which all slots are free
  pub record AreFree (nodes : ℕ) (ends : List E) : Type 0 where
    pub numbers : map lanes.number ends ≡ range_with_len 0 nodes
    pub wide : All (λ end. lanes.nodes end ≡ nodes) ends
    pub free : All (λ end. (to : ℕ) → to < nodes → lanes.is_free end to) ends

  -- the end of a node has posted what its commit handed out, which is gone from there, and taken what is early in its inbox
  pub record HasPosted (number : ℕ) (handed commit : Committed) (before inbox : Inbox) (old new : E) : Type 0 where
    pub same : lanes.is_same old new
    pub exchanged : HasExchanged lanes.sent lanes.received (length handed.out.items) number handed.out.items inbox.early.items old new
    pub moved : HasSent handed commit
    pub arrived : inbox.arrived ≡ before.arrived

  -- so has the end of each node
  pub record HavePosted (handed commits : List Committed) (befores inboxes : List Inbox) (old new : List E) : Type 0 where
    pub as_many_commits : length commits ≡ length handed
    pub as_many_inboxes : length inboxes ≡ length befores
    pub as_many_ends : length new ≡ length old
    pub each : (number : ℕ) (c d : Committed) (a b : Inbox) (x y : E) → slice_get handed number ≡ Some c → slice_get commits number ≡ Some d
        → slice_get befores number ≡ Some a → slice_get inboxes number ≡ Some b → slice_get old number ≡ Some x → slice_get new number ≡ Some y
        → HasPosted number c d a b x y

-- what is due at these nodes is committed, which leaves these lists, and all that it sent has arrived in these inboxes
pub record HaveCome {M : Type 0} (meaning_of : M → Meaning) (bound : ℕ) (cut : Option Key) (old new : List (NodeView M)) (commits : List Committed) (inboxes : List Inbox) : Type 0 where
  pub handed : List Committed
  pub committed : CommitUpto meaning_of bound cut (length old) old new handed
  pub sent : HaveSent handed commits
  pub many : length inboxes ≡ length old
  pub early : AtEach (λ place inbox. inbox.early.items ≡ []) inboxes
  pub comes : (to : ℕ) → to < length old → IsPermutation (sent_to to handed) (slice_index_or (map arrived_in inboxes) to [])
