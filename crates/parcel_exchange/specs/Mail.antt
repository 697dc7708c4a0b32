-- What goes from node to node in parcels.
use Rattle.std.specs.Prelude.{ℕ, List, [], ◌∷◌}
use Rattle.std.specs.List.{flat_map, range_with_len}
use Rattle.model_core.specs.declared.event.Event.{Event}
use Rattle.release_lanes.specs.declared.parcel.Parcel.{Parcel}

-- the events of these parcels, one parcel's after another's
abbrev pub events_in : List Parcel → List Event
events_in = flat_map (λ parcel. parcel.events)

-- the parcels in which a node sends these events: one, or none where there are none
abbrev pub parcels_of : ℕ → List Event → List Parcel
parcels_of from [] = []
parcels_of from (e ∷ es) = record { from = from; events = e ∷ es } ∷ []

-- what comes from each of so many nodes, one node's after another's
unfoldable pub from_each : {T : Type 0} → ℕ → (ℕ → List T) → List T
from_each nodes lists = flat_map lists (range_with_len 0 nodes)
