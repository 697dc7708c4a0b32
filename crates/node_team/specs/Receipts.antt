-- Nodes that receive what has come to their inboxes.
use Rattle.std.specs.Prelude.{◌≡◌, List, [], length, map}
use Rattle.model_core.specs.Meaning.{Meaning}
use Rattle.parcel_exchange.specs.declared.inbox.Inbox.{Inbox}
use Rattle.node_core.specs.Nodes.{NodeView}
use Rattle.cycle_core.specs.Ends.{AllCanReceive, ReceiveUpto}
use Rattle.cycle_core.specs.Places.{AtEach}
use Rattle.node_team.specs.Releases.{AreClear, arrived_in}

module _ {M : Type 0} (meaning_of : M → Meaning) where
  -- each of these nodes has an inbox, and can receive what has arrived in it
  pub record CanReceiveAll (nodes : List (NodeView M)) (inboxes : List Inbox) : Type 0 where
    pub can : AllCanReceive meaning_of (map arrived_in inboxes) nodes
    pub many : length inboxes ≡ length nodes
    pub early : AtEach (λ place inbox. inbox.early.items ≡ []) inboxes

  -- each has received it, and the inboxes are clear
  pub record HaveReceivedAll (nodes : List (NodeView M)) (inboxes : List Inbox) (new : List (NodeView M)) (left : List Inbox) : Type 0 where
    pub received : ReceiveUpto meaning_of (length nodes) (map arrived_in inboxes) nodes new
    pub clear : AreClear (length nodes) left
