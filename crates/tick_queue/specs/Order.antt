-- Words that stand for events.
use Rattle.std.specs.Prelude.{◌≡◌, ℕ, ◌+◌, ◌<◌, ◌%◌, false, List, length, map, slice_index_or}
use Rattle.std.specs.List.{AllByRecursion, range_with_len}
use Rattle.event_key.specs.Keys.{key_lt}
use Rattle.model_core.specs.declared.event.Event.{Event}

-- the place of a word
abbrev pub place_at : ℕ → ℕ
place_at w = w % 16384

-- what stands where there is no event
abbrev pub no_event : Event
no_event = record { key = record { stamp = 0; rank = 0; dest = 0; src = 0; serial = 0 }; kind = 0; a = 0; b = 0 }

-- the event at a place
abbrev pub event_at : List Event → ℕ → Event
event_at es place = slice_index_or es place no_event

-- the events at these places
abbrev pub shown : List Event → List ℕ → List Event
shown es places = map (event_at es) places

-- at each of these places there is an event
abbrev pub AreInside : List Event → List ℕ → Type 0
AreInside es places = AllByRecursion (λ place. place < length es) places

-- the events at these places are a list
pub record Shows (es : List Event) (places : List ℕ) (list : List Event) : Type 0 where
  pub inside : AreInside es places
  pub is : shown es places ≡ list

-- these words have the places of all events, from the first one on
abbrev pub HaveWords : List Event → List ℕ → Type 0
HaveWords es ws = map place_at ws ≡ map (λ k. k) (range_with_len 0 (length es))

-- no event comes before the one ahead of it
abbrev pub AreUnturned : List Event → Type 0
AreUnturned es = (k : ℕ) → k + 1 < length es → key_lt (slice_index_or es (k + 1) no_event).key (slice_index_or es k no_event).key ≡ false
