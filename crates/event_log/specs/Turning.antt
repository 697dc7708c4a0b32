-- Carried events while news go among them: those that have found their place stand at the front, and the others behind them.
use Rattle.std.specs.Prelude.{◌≡◌, ℕ, ◌-◌, ◌≤◌, true, List, [], ◌∷◌, ◌++◌, length, take, drop}
use Rattle.std.specs.List.{AllByRecursion}
use Rattle.event_key.specs.declared.key.Key.{Key}
use Rattle.event_key.specs.Keys.{key_lt}
use Rattle.key_order.specs.Ascending.{Ascends}
use Rattle.event_log.specs.Items.{AreHeld, AreHeldBut, CarriedView, IsHeld, Item, item_key, placed, placed_of}
use Rattle.event_log.specs.News.{NewsView}
use Rattle.event_log.specs.Popping.{HasPopped}

-- all of them, the others first
abbrev pub turned_back : ℕ → List Item → List Item
turned_back turned items = drop turned items ++ take turned items

-- what they are with this capacity
abbrev pub turned_view : ℕ → List Item → ℕ → CarriedView
turned_view turned items capacity = record { items = placed (turned_back turned items); room = capacity - length items }

-- the others come first by their keys, and each holds the least of what it and those behind it send, but the last of the others
pub record IsTurned (turned : ℕ) (items : List Item) : Type 0 where
  pub within : turned ≤ length items
  pub ordered : Ascends item_key (turned_back turned items)
  pub held : AreHeld (take turned items)
  pub but : AreHeldBut (length (drop turned items)) (drop turned items)

-- those that have found their place come after a key
abbrev pub AreAfter : Key → ℕ → List Item → Type 0
AreAfter key turned items = AllByRecursion (λ (i : Item). key_lt key (item_key i) ≡ true) (take turned items)

-- the last one has come before all with this place, and holds what it and so many behind it send
pub record HasTurnedLast (turned place : ℕ) (old new : List Item) : Type 0 where
  pub front : List Item
  pub last : Item
  pub put : Item
  pub old_is : old ≡ front ++ last ∷ []
  pub new_is : new ≡ put ∷ front
  pub put_is : placed_of put ≡ record { done = last.done; place = place }
  pub held : IsHeld put (take turned front)

-- the last of the news has come before all with this place, and holds what it and so many behind it send
pub record HasPutLast (turned place : ℕ) (old new : List Item) (news news' : NewsView) : Type 0 where
  pub put : Item
  pub popped : HasPopped news news' put.done
  pub new_is : new ≡ put ∷ old
  pub place_is : put.place ≡ place
  pub held : IsHeld put (take turned old)
