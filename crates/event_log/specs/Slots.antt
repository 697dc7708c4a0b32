-- Carried events in slots, and the entries that say in which.
use Rattle.std.specs.Prelude.{◌≡◌, ℕ, ◌+◌, ◌<◌, ◌≤◌, ◌==◌, ◌⊎◌, suc, List, [], ◌∷◌, ◌++◌, length, map, slice_get, Option, Some, None, if◌then◌else◌}
use Rattle.std.specs.List.{AllByRecursion}
use Rattle.event_key.specs.declared.key.Key.{Key}
use Rattle.object_log.specs.Dones.{Done}
use Rattle.object_log.specs.declared.done.Verdict.TheVariants.{Failed}
use Rattle.event_log.specs.declared.contents.Contents.{Contents}
use Rattle.event_log.specs.declared.entry.Entry.{Entry}
use Rattle.event_log.specs.Items.{Item, ItemsView, item_key, item_least}
use Rattle.event_log.specs.Keeping.{IsKept, done_in}

-- what is in a slot, or an event that did nothing
abbrev pub done_or : Key → Option Contents → Done
done_or key None = record { event = record { key = key; kind = 0; a = 0; b = 0 }; undo = []; sends = []; verdict = Failed 0 }
done_or key (Some c) = done_in c

abbrev pub item_in : List Contents → Entry → Item
item_in slots e = record { done = done_or e.key (slice_get slots e.slot); place = e.place; held = e.held }

abbrev pub items_in : List Contents → List Entry → List Item
items_in slots = map (item_in slots)

-- an entry tells of an item
pub record TellsOf (i : Item) (e : Entry) : Type 0 where
  pub key_is : e.key ≡ item_key i
  pub place_is : e.place ≡ i.place
  pub least_is : e.least ≡ item_least i
  pub held_is : e.held ≡ i.held

-- an event of the entry's key and least stamp lies in its slot
pub record LiesIn (slots : List Contents) (e : Entry) : Type 0 where
  pub contents : Contents
  pub there : slice_get slots e.slot ≡ Some contents
  pub kept : IsKept contents
  pub key_is : e.key ≡ contents.event.key
  pub least_is : e.least ≡ contents.least

-- how many entries are of a slot
unfoldable pub entries_of : ℕ → List Entry → ℕ
entries_of slot [] = 0
entries_of slot (e ∷ es) = if e.slot == slot then suc (entries_of slot es) else entries_of slot es

-- how often a slot is free
unfoldable pub frees_of : ℕ → List ℕ → ℕ
frees_of slot [] = 0
frees_of slot (s ∷ ss) = if s == slot then suc (frees_of slot ss) else frees_of slot ss

-- each entry has an event in a slot of its own, and the other slots are free
pub record AreInSlots (slots : List Contents) (free : List ℕ) (es : List Entry) : Type 0 where
  pub lie : AllByRecursion (LiesIn slots) es
  pub within : AllByRecursion (λ slot. slot < length slots) free
  pub apart : (slot : ℕ) → entries_of slot es + frees_of slot free ≤ 1
  pub as_many : length slots ≡ length es + length free

-- a slot was free, or it is a new one, since none was free
abbrev pub HasOpened : List Contents → List ℕ → List Contents → List ℕ → ℕ → Type 0
HasOpened slots free slots' free' slot =
    ((free ≡ free' ++ slot ∷ []) × (slots' ≡ slots))
    ⊎ ((free ≡ []) × (free' ≡ []) × (slot ≡ length slots) × (c : Contents) × (slots' ≡ slots ++ c ∷ []))

-- an item lies in a slot of its own, of which an entry tells before others, and there is room for that slot among the free ones
pub record IsLaid (old now : List Contents) (free : List ℕ) (es : List Entry) (e : Entry) (item : Item) (room : ℕ) : Type 0 where
  pub slots_are : AreInSlots now free (e ∷ es)
  pub stay : items_in now es ≡ items_in old es
  pub own : item_in now e ≡ item
  pub fits : length now ≤ room

-- so it is whatever others there are
abbrev pub HasLaid : List Contents → List ℕ → List Contents → List ℕ → Entry → Item → Type 0
HasLaid slots free slots' free' e item =
    (es : List Entry) (room : ℕ) → AreInSlots slots free es → length slots ≤ room → length es < room → IsLaid slots slots' free' es e item room

-- as they are seen, with their room
abbrev pub items_view : List Contents → List Entry → ℕ → ItemsView
items_view slots es room = record { items = items_in slots es; capacity = room }
