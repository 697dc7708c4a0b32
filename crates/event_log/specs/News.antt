-- Processed events in flat lists.
use Rattle.std.specs.Prelude.{◌≡◌, ℕ, ◌<◌, ◌≤◌, ◌+◌, ◌^◌, true, List, [], ◌∷◌, ◌++◌, length, map, take, drop, slice_index, Option, Some, None, IfSome, IsTrue}
use Rattle.std.specs.List.{AllByRecursion}
use Rattle.event_key.specs.declared.key.Key.{Key}
use Rattle.event_key.specs.Keys.{key_lt}
use Rattle.event_key.specs.Stamps.{time_part}
use Rattle.event_key.specs.declared.stamp.TheConstants.{NO_STAMP}
use Rattle.delta_exchange.specs.declared.change.Change.{Change}
use Rattle.key_order.specs.Ascending.{Ascends}
use Rattle.key_order.specs.Stamps.{least_stamp}
use Rattle.model_core.specs.declared.event.Event.{Event}
use Rattle.model_core.specs.declared.note.Note.{Note}
use Rattle.model_core.specs.Meaning.{Meaning}
use Rattle.object_log.specs.Dones.{Done}
use Rattle.object_log.specs.declared.done.Verdict.{Verdict}
use Rattle.object_log.specs.declared.done.Verdict.TheVariants.{Noted, Failed}
use Rattle.object_log.specs.EventLogs.{done_key}
use Rattle.object_log.specs.Flat.{changes_of}
use Rattle.object_log.specs.Keeping.{OnlyLastFailed}
use Rattle.object_log.specs.Logs.{fault_of, held_of}
use Rattle.object_log.specs.Objects.{HasFired, KeptObject}
use Rattle.object_log.specs.Tellings.{told_all}
use Rattle.event_log.specs.declared.row.Row.{Row}
use Rattle.event_log.specs.Outboxes.{message}

-- the processed events in the order of their keys, their messages with their homes, what is told of events that were
-- taken back since records were handed out, and how many homes there are
pub record NewsView : Type 0 where
  pub done : List Done
  pub sent : List (ℕ × Event)
  pub gone : List (Key × Note)
  pub nodes : ℕ

-- a row, after this least stamp
abbrev pub row_of : ℕ → Done → Row
row_of least d = record { event = d.event; least = least_stamp least d.sends; changes = length d.undo; sends = length d.sends }

unfoldable pub rows_of : ℕ → List Done → List Row
rows_of least [] = []
rows_of least (d ∷ ds) = row_of least d ∷ rows_of (least_stamp least d.sends) ds

-- the code of the event that failed
abbrev pub code_or : Verdict → Option ℕ → Option ℕ
code_or (Noted note) more = more
code_or (Failed code) more = Some code

unfoldable pub code_of : List Done → Option ℕ
code_of [] = None
code_of (d ∷ ds) = code_or d.verdict (code_of ds)

-- the least stamp that rows tell
abbrev pub least_after : ℕ → List Row → ℕ
least_after least [] = least
least_after least (r ∷ rs) = least_after r.least rs

-- these events lie there
pub record HoldsNews (news : List Done) (gone told : List (Key × Note)) (rows : List Row) (undo : List Change) (sent : List (ℕ × Event)) (code : Option ℕ) : Type 0 where
  pub rows_are : rows ≡ rows_of NO_STAMP news
  pub told_are : told ≡ told_all news ++ gone
  pub undo_are : undo ≡ changes_of news
  pub sent_are : map message sent ≡ held_of news
  pub code_is : code ≡ code_of news
  pub last : OnlyLastFailed news
  pub whole : IfSome code (λ c. gone ≡ [])
  pub ordered : Ascends done_key news

-- what came of an event
abbrev pub verdict_by : List (Key × Note) → Option ℕ → Verdict
verdict_by [] None = Noted []
verdict_by [] (Some code) = Failed code
verdict_by (t ∷ ts) code = Noted t.1

abbrev pub later_told : List (Key × Note) → List (Key × Note)
later_told [] = []
later_told (t ∷ ts) = ts

-- the events that lie there
unfoldable pub events_in : Option ℕ → List Row → List (Key × Note) → List Change → List Event → List Done
events_in code [] told undo sent = []
events_in code (r ∷ rs) told undo sent =
    (record { event = r.event; undo = take r.changes undo; sends = take r.sends sent; verdict = verdict_by told code })
    ∷ events_in code rs (later_told told) (drop r.changes undo) (drop r.sends sent)

abbrev pub news_view : List Row → List (Key × Note) → List Change → List (ℕ × Event) → Option ℕ → ℕ → NewsView
news_view rows told undo sent code nodes = record { done = events_in code rows told undo (map message sent); sent = sent; gone = drop (length rows) told; nodes = nodes }

abbrev pub IsNews : List Row → List (Key × Note) → List Change → List (ℕ × Event) → Option ℕ → Type 0
IsNews rows told undo sent code = (news : List Done) × (gone : List (Key × Note)) × HoldsNews news gone told rows undo sent code

-- a message with its home
abbrev pub homed : List ℕ → Event → ℕ × Event
homed homes e = (slice_index homes e.key.dest, e)

-- one event more, which an object fired
pub record HasJoined (m : Meaning) (homes : List ℕ) (event : Event) (earlier later : KeptObject) (old new : NewsView) (least : ℕ) : Type 0 where
  pub entry : Done
  pub fired : HasFired m earlier later event entry
  pub done : new.done ≡ old.done ++ entry ∷ []
  pub sent : new.sent ≡ old.sent ++ map (homed homes) entry.sends
  pub gone : new.gone ≡ old.gone
  pub nodes : new.nodes ≡ old.nodes
  pub least_is : least ≡ least_stamp NO_STAMP entry.sends
  pub few_changes : length entry.undo ≤ 16
  pub few_sends : length entry.sends ≤ 8

-- an object can fire an event, and the homes of all that it may send to are known
pub record CanFire (m : Meaning) (homes : List ℕ) (nodes : ℕ) (object : KeptObject) (event : Event) : Type 0 where
  pub object_in : object.object < m.objects
  pub lawful : IsTrue (m.lawful object.object object.cells.contents)
  pub dest : event.key.dest ≡ object.object
  pub time : time_part event.key.stamp < 2 ^ 46
  pub sent : object.sent < 2 ^ 60
  pub known : length homes ≡ m.objects
  pub homes_in : AllByRecursion (λ home. home < nodes) homes

-- an event of this key can come behind them
pub record CanTake (key : Key) (v : NewsView) : Type 0 where
  pub above : AllByRecursion (λ (d : Done). key_lt d.event.key key ≡ true) v.done
  pub went : fault_of v.done ≡ None
  pub few : length v.done + 8 < 2 ^ 60
  pub few_sent : length v.sent + 8 < 2 ^ 60
