-- What commits send, before and after it is moved on.
use Rattle.std.specs.Prelude.{◌≡◌, ℕ, ◌+◌, ◌<◌, ◌^◌, List, [], ◌++◌, length, slice_index_or}
use Rattle.model_core.specs.declared.event.Event.{Event}
use Rattle.node_core.specs.declared.committed.Committed.{Committed}
use Rattle.node_core.specs.Blank.{AreEmpty}
use Rattle.cycle_core.specs.Places.{EachPair}

-- each of these chains has room for what is sent there
abbrev pub CanTakeUp : List (List Event) → List (List Event) → Type 0
CanTakeUp parcels sent =
    (to : ℕ) → to < length parcels → length (slice_index_or parcels to []) + length (slice_index_or sent to []) < 2 ^ 60

-- each of these chains has at its end what is sent there
abbrev pub HaveTakenUp : List (List Event) → List (List Event) → List (List Event) → Type 0
HaveTakenUp sent before after = (to : ℕ) → slice_index_or after to [] ≡ slice_index_or before to [] ++ slice_index_or sent to []

-- a commit has a chain for each of so many nodes, and sends nothing where it tells of nothing
pub record SendsTo (nodes : ℕ) (c : Committed) : Type 0 where
  pub long : length c.out.items ≡ nodes
  pub idle : c.done.items ≡ [] → (to : ℕ) → slice_index_or c.out.items to [] ≡ []

-- what was sent is gone from a commit, and what it tells is still there
abbrev pub HasSent : Committed → Committed → Type 0
HasSent old new = (new.done ≡ old.done) × AreEmpty (length old.out.items) new.out.items

-- so it is of each of these
abbrev pub HaveSent : List Committed → List Committed → Type 0
HaveSent = EachPair HasSent
