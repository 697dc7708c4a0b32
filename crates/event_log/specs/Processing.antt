-- All that is processed: what is carried, and the news.
use Rattle.std.specs.Prelude.{◌≡◌, ℕ, ◌+◌, ◌<◌, ◌≤◌, ◌^◌, true, List, [], ◌∷◌, length, map, None}
use Rattle.std.specs.List.{AllByRecursion}
use Rattle.event_key.specs.declared.key.Key.{Key}
use Rattle.event_key.specs.Keys.{key_lt}
use Rattle.event_key.specs.declared.stamp.TheConstants.{NO_STAMP}
use Rattle.key_order.specs.Ascending.{Ascends}
use Rattle.key_order.specs.Stamps.{least_stamp}
use Rattle.model_core.specs.declared.event.Event.{Event}
use Rattle.model_core.specs.Meaning.{Meaning}
use Rattle.object_log.specs.Carrying.{Placed, placed_key}
use Rattle.object_log.specs.Dones.{Done}
use Rattle.object_log.specs.Flat.{zeros}
use Rattle.object_log.specs.Logs.{fault_of}
use Rattle.object_log.specs.Objects.{HasFired, KeptObject}
use Rattle.object_log.specs.Weave.{insert, weave}
use Rattle.event_log.specs.Items.{CarriedView}
use Rattle.event_log.specs.News.{NewsView, homed}
use Rattle.event_log.specs.Outboxes.{message}

-- all processed events in the order of their keys, those among them that aren't carried, the messages of those with
-- their homes, and how many homes there are
pub record ProcessedView : Type 0 where
  pub items : List Placed
  pub news : List Done
  pub chained : List (ℕ × Event)
  pub nodes : ℕ

-- the news at the places of their objects
unfoldable pub placed_all : List Done → List ℕ → List Placed
placed_all [] places = []
placed_all (d ∷ ds) [] = []
placed_all (d ∷ ds) (place ∷ places) = (record { done = d; place = place }) ∷ placed_all ds places

-- the news among what is carried
abbrev pub merged : List Done → List ℕ → List Placed → List Placed
merged news places items = weave placed_key (placed_all news places) items

abbrev pub processed_view : List ℕ → NewsView → CarriedView → ProcessedView
processed_view places news carried = record { items = merged news.done places carried.items; news = news.done; chained = news.sent; nodes = news.nodes }

-- all news can be carried: there is room for them, and a cell for each that sends nothing
pub record CanCarry (places : List ℕ) (news : NewsView) (carried : CarriedView) (cells : ℕ) : Type 0 where
  pub ordered : Ascends placed_key (merged news.done places carried.items)
  pub long : length places ≡ length news.done
  pub room : length news.done ≤ carried.room
  pub few : AllByRecursion (λ (d : Done). length d.undo ≤ 16) news.done
  pub cells_are : zeros news.done ≤ cells

-- so it is of each list, and nothing is told of events that were taken back
pub record IsProcessed (places : List ℕ) (news : NewsView) (carried : CarriedView) (idle cells : ℕ) : Type 0 where
  pub ordered : Ascends placed_key (merged news.done places carried.items)
  pub long : length places ≡ length news.done
  pub room : length news.done ≤ carried.room
  pub few : AllByRecursion (λ (d : Done). length d.undo ≤ 16) news.done
  pub zeros_are : zeros news.done ≤ idle
  pub idle_most : idle ≤ length news.done
  pub cells_are : idle ≤ cells
  pub whole : news.gone ≡ []

-- the messages lie at the homes that these are
abbrev pub AreHomed : List ℕ → List (ℕ × Event) → Type 0
AreHomed homes chained = chained ≡ map (homed homes) (map message chained)

-- one event more, which an object at this place fired
pub record HasCome (m : Meaning) (event : Event) (place : ℕ) (earlier later : KeptObject) (old new : ProcessedView) (least : ℕ) : Type 0 where
  pub entry : Done
  pub fired : HasFired m earlier later event entry
  pub items : new.items ≡ insert placed_key (record { done = entry; place = place }) old.items
  pub least_is : least ≡ least_stamp NO_STAMP entry.sends

-- the same events, of which more may be carried
pub record IsSameProcessed (old new : ProcessedView) : Type 0 where
  pub items : new.items ≡ old.items
  pub nodes : new.nodes ≡ old.nodes

-- an event of this key can come behind the news
pub record CanJoin (key : Key) (v : ProcessedView) : Type 0 where
  pub above : AllByRecursion (λ (d : Done). key_lt d.event.key key ≡ true) v.news
  pub went : fault_of v.news ≡ None
  pub few : length v.news + 8 < 2 ^ 60
  pub few_sent : length v.chained + 8 < 2 ^ 60
