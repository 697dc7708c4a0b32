-- What changes on lanes: each lane has lists, named by the number of a node or by those of two.
use Rattle.std.specs.Prelude.{◌≡◌, ◌≢◌, ℕ, ◌<◌, List, [], ◌∷◌, ◌++◌, Some, slice_get, slice_index_or}

module _ {T : Type 0} where
  -- one list has one more item, and the others stay
  abbrev pub AddsOne : (ℕ → List T) → (ℕ → List T) → ℕ → T → Type 0
  AddsOne before after place item =
      (after place ≡ before place ++ item ∷ []) × ((other : ℕ) → other ≢ place → after other ≡ before other)

  abbrev pub SameLists : (ℕ → List T) → (ℕ → List T) → Type 0
  SameLists before after = (place : ℕ) → after place ≡ before place

  -- the same of lanes, each from one node to another
  abbrev pub AddsOneOn : (ℕ → ℕ → List T) → (ℕ → ℕ → List T) → ℕ → ℕ → T → Type 0
  AddsOneOn before after from to item =
      (after from to ≡ before from to ++ item ∷ [])
      × ((i j : ℕ) → i ≢ from → after i j ≡ before i j)
      × ((i j : ℕ) → j ≢ to → after i j ≡ before i j)

  abbrev pub SameLanes : (ℕ → ℕ → List T) → (ℕ → ℕ → List T) → Type 0
  SameLanes before after = (from to : ℕ) → after from to ≡ before from to

  -- on each lane between so many nodes what was received, followed by what rests, is what was sent
  abbrev pub Meets : ℕ → (ℕ → ℕ → List T) → (ℕ → ℕ → List T) → (ℕ → ℕ → List T) → Type 0
  Meets nodes received rest sent = (from to : ℕ) → from < nodes → to < nodes → received from to ++ rest from to ≡ sent from to

  -- these ends, in the order of the nodes, have received from one another all that they have sent to one another
  abbrev pub AllReceived : {E : Type 0} → (E → ℕ → List T) → (E → ℕ → List T) → List E → Type 0
  AllReceived {E} sent received ends =
      (from to : ℕ) (sender receiver : E) → slice_get ends from ≡ Some sender → slice_get ends to ≡ Some receiver
      → received receiver from ≡ sent sender to

  -- no lane between so many nodes has anything left
  abbrev pub NothingRests : ℕ → (ℕ → ℕ → List T) → Type 0
  NothingRests nodes rest = (from to : ℕ) → from < nodes → to < nodes → rest from to ≡ []

  -- on each lane between so many nodes all that was sent was received
  abbrev pub AllArrived : ℕ → (ℕ → ℕ → List T) → (ℕ → ℕ → List T) → Type 0
  AllArrived nodes received sent = (from to : ℕ) → from < nodes → to < nodes → received from to ≡ sent from to

-- the item is now the last that was received from one of so many nodes
pub record TakesFromOne {T : Type 0} (nodes : ℕ) (before after : ℕ → List T) (item : T) : Type 0 where
  pub from : ℕ
  pub within : from < nodes
  pub last : AddsOne before after from item

-- the item was the first that rested on a lane to a node, and is now the last that was received on it
pub record TakesRest {T : Type 0} (nodes : ℕ) (rested rest received_before received : ℕ → ℕ → List T) (to : ℕ) (item : T) : Type 0 where
  pub from : ℕ
  pub within : from < nodes
  pub first : rested from to ≡ item ∷ rest from to
  pub last : AddsOneOn received_before received from to item

-- the list at a place, and the list at a place of a place, or none
abbrev pub list_at : {T : Type 0} → List (List T) → ℕ → List T
list_at lists place = slice_index_or lists place []

abbrev pub lane_at : {T : Type 0} → List (List (List T)) → ℕ → ℕ → List T
lane_at lanes i j = list_at (slice_index_or lanes i []) j
