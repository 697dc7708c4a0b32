-- What plain slots hold.
use Rattle.std.specs.Prelude.{◌≡◌, ◌⊎◌, ℕ, ◌-◌, ◌<◌, ◌≤◌, List, [], ◌∷◌, None, map, length, take, All}
use Rattle.std.specs.Prelude.{option_to_list, slice_index_or, slice_set}
use Rattle.std.specs.List.{range_with_len}
use Rattle.release_lanes.specs.declared.parcel.Parcel.{Parcel}
use Rattle.release_lanes.specs.declared.plain.PlainEnd.{PlainEnd}
use Rattle.release_lanes.specs.Lanes.{NothingRests, lane_at}

-- the number of the node, and how many slots it has
abbrev pub outline : PlainEnd → ℕ × ℕ
outline end = (end.number, length end.slots.items)

-- what is posted, by the node that it goes to
abbrev pub posted : PlainEnd → List (List Parcel)
posted end = map option_to_list end.slots.items

-- what is posted by one node to another
abbrev pub standing : List PlainEnd → ℕ → ℕ → List Parcel
standing ends from to = lane_at (map posted ends) from to

-- a parcel was the first one posted to a node from an end at or after the first place, and its slot is empty now
pub record TakesFirst (old new : List PlainEnd) (to first from : ℕ) (parcel : Parcel) : Type 0 where
  pub within : from < length old
  pub held : standing old from to ≡ parcel ∷ []
  pub none_before : (other : ℕ) → first ≤ other → other < from → standing old other to ≡ []
  pub emptied : map posted new ≡ slice_set (map posted old) from (slice_set (slice_index_or (map posted old) from []) to [])

-- one end for each node, in the order of the nodes, with a slot for each node
abbrev pub IsTeam : ℕ → List PlainEnd → Type 0
IsTeam nodes ends = map outline ends ≡ map (λ number. (number, nodes)) (range_with_len 0 nodes)

abbrev pub AreEmpty : PlainEnd → Type 0
AreEmpty end = All (λ slot. slot ≡ None) end.slots.items

-- what one node has received from another: the front of what was sent, without what stands there still
abbrev pub delivered : List PlainEnd → List PlainEnd → ℕ → ℕ → List Parcel
delivered sent ends from to = take (length (standing sent from to) - length (standing ends from to)) (standing sent from to)

-- the ends were given back, and what they hold now is what they were given back with, or was taken. Nothing rests for the
-- node that was served last from the nodes below the next one
pub record AreBack (nodes served next : ℕ) (sent ends : List PlainEnd) : Type 0 where
  pub team : IsTeam nodes ends
  pub left : (from to : ℕ) → (standing ends from to ≡ []) ⊎ (standing ends from to ≡ standing sent from to)
  pub taken : (from : ℕ) → from < next → standing ends from served ≡ []

-- the ends were given back, and nothing is left
abbrev pub AreAtRest : ℕ → ℕ → ℕ → List PlainEnd → List PlainEnd → Type 0
AreAtRest nodes served next sent ends = AreBack nodes served next sent ends × NothingRests nodes (standing ends)
