-- What comes to a node.
use Rattle.std.specs.Prelude.{◌≡◌, ◌≢◌, ℕ, ◌<◌, List, ◌++◌, [], IsPermutation}
use Rattle.model_core.specs.declared.event.Event.{Event}
use Rattle.release_lanes.specs.declared.parcel.Parcel.{Parcel}
use Rattle.parcel_exchange.specs.declared.inbox.Inbox.{Inbox}
use Rattle.parcel_exchange.specs.Mail.{events_in, from_each}

-- what rests for a node from each of so many nodes
abbrev pub resting : ℕ → (ℕ → List Parcel) → List Event
resting nodes rest = from_each nodes (λ from. events_in (rest from))

-- what has come to a node, and what rests for it
abbrev pub coming : ℕ → (ℕ → List Parcel) → Inbox → List Event
coming nodes rest inbox = inbox.arrived ++ events_in inbox.early.items ++ resting nodes rest

-- what rests for the other ones of so many nodes stays
abbrev pub StaysElsewhere : ℕ → ℕ → (ℕ → ℕ → List Parcel) → (ℕ → ℕ → List Parcel) → Type 0
StaysElsewhere nodes to before after = (i j : ℕ) → i < nodes → j < nodes → j ≢ to → after i j ≡ before i j

-- all of it has arrived, up to its order
pub record HasArrived (nodes : ℕ) (rest : ℕ → List Parcel) (old new : Inbox) : Type 0 where
  pub all : IsPermutation (coming nodes rest old) new.arrived
  pub emptied : new.early.items ≡ []
