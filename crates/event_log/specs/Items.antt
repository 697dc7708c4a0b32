-- Carried events in the order of their keys, and the least stamps that they hold.
use Rattle.std.specs.Prelude.{◌≡◌, ℕ, zero, suc, min, Bool, false, List, [], ◌∷◌, map, None}
use Rattle.event_key.specs.declared.key.Key.{Key}
use Rattle.event_key.specs.declared.stamp.TheConstants.{NO_STAMP}
use Rattle.key_order.specs.Stamps.{least_stamp}
use Rattle.object_log.specs.Carrying.{Placed}
use Rattle.object_log.specs.Dones.{Done}
use Rattle.object_log.specs.Logs.{fault_of}
use Rattle.object_log.specs.Whole.{dones_in}

-- a carried event, the place of its object, and the least stamp that it and those behind it send
pub record Item : Type 0 where
  pub done : Done
  pub place : ℕ
  pub held : ℕ

-- items, one behind another, and for how many there is room
pub record ItemsView : Type 0 where
  pub items : List Item
  pub capacity : ℕ

-- the events in order, and for how many more there is room
pub record CarriedView : Type 0 where
  pub items : List Placed
  pub room : ℕ

abbrev pub placed_of : Item → Placed
placed_of i = record { done = i.done; place = i.place }

abbrev pub placed : List Item → List Placed
placed = map placed_of

abbrev pub item_key : Item → Key
item_key i = i.done.event.key

-- the least stamp that an event sends
abbrev pub item_least : Item → ℕ
item_least i = least_stamp NO_STAMP i.done.sends

-- an event at a place, and the least of what it sends and of what others hold
abbrev pub item_before : Done → ℕ → ℕ → Item
item_before d place held = record { done = d; place = place; held = min (least_stamp NO_STAMP d.sends) held }

-- what the first one holds
abbrev pub first_held : List Item → ℕ
first_held [] = NO_STAMP
first_held (i ∷ is) = i.held

-- an item holds the least of what it and those behind it send
abbrev pub IsHeld : Item → List Item → Type 0
IsHeld i is = i.held ≡ min (item_least i) (first_held is)

-- each does
unfoldable pub AreHeld : List Item → Type 0
AreHeld [] = Unit {0}
AreHeld (i ∷ is) = IsHeld i is × AreHeld is

-- so does an item, but not the last one before a place
abbrev pub IsHeldBut : ℕ → Item → List Item → Type 0
IsHeldBut zero i is = Unit {0}
IsHeldBut (suc n) i is = IsHeld i is

-- each does but the one before a place
unfoldable pub AreHeldBut : ℕ → List Item → Type 0
AreHeldBut zero is = AreHeld is
AreHeldBut (suc n) [] = Unit {0}
AreHeldBut (suc n) (i ∷ is) = IsHeldBut n i is × AreHeldBut n is

-- one of them may have failed: if none may, none did
abbrev pub MayFail : Bool → List Item → Type 0
MayFail may is = may ≡ false → fault_of (dones_in (placed is)) ≡ None
