-- What contracts see of slots, and what holds of the fields that keep them.
use Rattle.std.specs.Prelude.{◌≡◌, ◌≢◌, ℕ, ◌<◌, List, [], length, slice_index_or}
use Rattle.model_core.specs.declared.event.Event.{Event}
use Rattle.tick_queue.specs.Marks.{mark_of}

-- the events of each slot, and for how many more there is room certain
pub record SlotsView : Type 0 where
  pub slots : List (List Event)
  pub spare : ℕ

abbrev pub AllEmpty : List (List Event) → Type 0
AllEmpty slots = (i : ℕ) → slice_index_or slots i [] ≡ []

-- the first slot that has events
pub record IsFirst (slots : List (List Event)) (slot : ℕ) : Type 0 where
  pub small : slot < 512
  pub some : slice_index_or slots slot [] ≢ []
  pub none : (i : ℕ) → i < slot → slice_index_or slots i [] ≡ []

-- the marks say which slots have events
pub record AreSlots (marks : List ℕ) (slots : List (List Event)) : Type 0 where
  pub long : length slots ≡ 512
  pub clear : (i : ℕ) → mark_of marks i ≡ 0 → slice_index_or slots i [] ≡ []
  pub full : (i : ℕ) → mark_of marks i ≡ 1 → slice_index_or slots i [] ≢ []
