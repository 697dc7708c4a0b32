-- What an end does in a cycle.
use Rattle.std.specs.Prelude.{◌≡◌, ℕ, ◌<◌, List, ◌++◌, [], slice_index_or, IsPermutation}
use Rattle.model_core.specs.declared.event.Event.{Event}
use Rattle.release_lanes.specs.declared.parcel.Parcel.{Parcel}
use Rattle.parcel_exchange.specs.Mail.{events_in, parcels_of, from_each}

-- of what was received from each of so many nodes there is more: these parcels, up to their order
pub record HasTaken (nodes : ℕ) (before after : ℕ → List Parcel) (parcels : List Parcel) : Type 0 where
  pub took : ℕ → List Parcel
  pub received : (from : ℕ) → from < nodes → after from ≡ before from ++ took from
  pub all : IsPermutation (from_each nodes (λ from. events_in (took from))) (events_in parcels)

-- a node has posted these lists of events, each to the one of so many nodes whose number is its place
abbrev pub PostsAll : ℕ → ℕ → List (List Event) → (ℕ → List Parcel) → (ℕ → List Parcel) → Type 0
PostsAll nodes number out before after = (to : ℕ) → to < nodes → after to ≡ before to ++ parcels_of number (slice_index_or out to [])

-- one node's end has posted these lists of events, each to the node of its place, and has taken these parcels
pub record HasExchanged {E : Type 0} (sent received : E → ℕ → List Parcel) (nodes number : ℕ)
    (out : List (List Event)) (early : List Parcel) (old new : E) : Type 0 where
  pub posted : PostsAll nodes number out (sent old) (sent new)
  pub taken : HasTaken nodes (received old) (received new) early
