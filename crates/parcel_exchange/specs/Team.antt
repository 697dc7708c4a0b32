-- What the ends of all nodes do in a cycle.
use Rattle.std.specs.Prelude.{◌≡◌, ℕ, List, [], length, slice_get, slice_index_or, Some, IsPermutation}
use Rattle.std.specs.List.{flat_map}
use Rattle.model_core.specs.declared.event.Event.{Event}
use Rattle.release_lanes.specs.declared.parcel.Parcel.{Parcel}
use Rattle.parcel_exchange.specs.Exchange.{HasExchanged}
use Rattle.parcel_exchange.specs.declared.inbox.Inbox.{Inbox}

-- what these hand out to a node, one after another
abbrev pub handed_to : {C : Type 0} → (C → List (List Event)) → ℕ → List C → List Event
handed_to out_of to = flat_map (λ c. slice_index_or (out_of c) to [])

-- in each inbox all that these hand out to its node has arrived, up to its order
abbrev pub HaveAllCome : {C : Type 0} → (C → List (List Event)) → List C → List Inbox → Type 0
HaveAllCome out_of handed inboxes =
    (to : ℕ) (inbox : Inbox) → slice_get inboxes to ≡ Some inbox → IsPermutation (handed_to out_of to handed) inbox.arrived

-- each end has posted what is handed out at its place, and has taken what lies early in the inbox at its place
pub record HaveExchanged {E C : Type 0} (sent received : E → ℕ → List Parcel) (out_of : C → List (List Event))
    (handed : List C) (inboxes : List Inbox) (old new : List E) : Type 0 where
  pub many : length handed ≡ length inboxes
  pub each : (number : ℕ) (c : C) (inbox : Inbox) (x y : E) → slice_get handed number ≡ Some c → slice_get inboxes number ≡ Some inbox
      → slice_get old number ≡ Some x → slice_get new number ≡ Some y
      → HasExchanged sent received (length inboxes) number (out_of c) inbox.early.items x y
