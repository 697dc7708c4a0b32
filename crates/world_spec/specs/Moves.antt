-- What a node does: steps, commits, receipts and rollbacks.
use Rattle.std.specs.Prelude.{◌≡◌, ◌≢◌, ◌⊎◌, ℕ, suc, ◌-◌, ◌<◌, ◌≤◌, not, true, false, List, [], ◌∷◌, ◌++◌, length, filter, drop, ◌==◌, if◌then◌else◌, Option, Some}
use Rattle.std.specs.List.{AllByRecursion}
use Rattle.event_key.specs.declared.key.Key.{Key}
use Rattle.event_key.specs.Keys.{key_lt}
use Rattle.event_key.specs.Stamps.{end_stamp}
use Rattle.model_core.specs.declared.event.Event.{Event}
use Rattle.model_core.specs.Meaning.{Meaning}
use Rattle.sim_spec.specs.declared.terms.Terms.{Terms}
use Rattle.key_order.specs.Pending.{enqueue_all}
use Rattle.key_order.specs.Ascending.{IsAscending}
use Rattle.sim_spec.specs.Replay.{Replay, replay, events_at}
use Rattle.key_order.specs.Due.{is_due}
use Rattle.world_spec.specs.Early.{is_before_all, leading}
use Rattle.world_spec.specs.Share.{Share, IsHome, IsAtHome, NodeData, ahead_events, log_of}

-- a log with one event more
abbrev pub one_more : Meaning → ℕ → Replay → Event → Replay
one_more m object r e = let x = replay m object r.state (e ∷ []) in record x { done = r.done ++ x.done }

-- the event comes before each fault of the node
abbrev pub IsBeforeFaults : Meaning → (ℕ → ℕ) → ℕ → NodeData → Key → Type 0
IsBeforeFaults m home node held key =
    (object : ℕ) → IsHome m home node object → (fault : Key × ℕ) → (held.log object).fault ≡ Some fault → key_lt key fault.0 ≡ true

-- a step: the least event that waits is processed, below the bound and before each fault
pub record IsStep (m : Meaning) (home : ℕ → ℕ) (node bound : ℕ) (old new : NodeData) : Type 0 where
  pub event : Event
  pub waits : old.unprocessed ≡ event ∷ new.unprocessed
  pub below : event.key.stamp < bound
  pub before : IsBeforeFaults m home node old event.key
  pub log : new.log event.key.dest ≡ one_more m event.key.dest (old.log event.key.dest) event
  pub others : (object : ℕ) → IsHome m home node object → object ≢ event.key.dest → new.log object ≡ old.log object

-- one more at this object
abbrev pub raised : (ℕ → ℕ) → ℕ → ℕ → ℕ
raised ahead dest object = if object == dest then suc (ahead object) else ahead object

-- steps, each below the bound that was read before it: a later bound may be lower
unfoldable pub Steps : Meaning → (ℕ → ℕ) → ℕ → List ℕ → NodeData → NodeData → Type 0
Steps m home node [] old new = old ≡ new
Steps m home node (bound ∷ bounds) old new = (mid : NodeData) × IsStep m home node bound old mid × Steps m home node bounds mid new

-- the event comes after some fault of the node
abbrev pub IsPastFaultOf : Meaning → (ℕ → ℕ) → ℕ → NodeData → Key → Type 0
IsPastFaultOf m home node held key =
    (object : ℕ) × IsHome m home node object × (fault : Key × ℕ) × ((held.log object).fault ≡ Some fault) × (key_lt fault.0 key ≡ true)

-- no event waits below the bound, unless behind a fault
abbrev pub IsIdle : Meaning → (ℕ → ℕ) → ℕ → ℕ → NodeData → Type 0
IsIdle m home node bound held = AllByRecursion (λ e. (bound ≤ e.key.stamp) ⊎ IsPastFaultOf m home node held e.key) held.unprocessed

-- a lawful advance, as far as it speaks of shares and steps: steps below bounds that were read, none of them past
-- the end; the node is idle below the last one that was seen; and it processed so many events, or all that it may
pub record IsAdvance (m : Meaning) (t : Terms) (home : ℕ → ℕ) (node seen depth : ℕ) (old new : NodeData) : Type 0 where
  pub bounds : List ℕ
  pub within : AllByRecursion (λ (bound : ℕ). bound ≤ end_stamp t.end) bounds
  pub steps : Steps m home node bounds old new
  pub idle : IsIdle m home node seen new
  pub deep : (depth ≤ length bounds) ⊎ IsIdle m home node (end_stamp t.end) new

-- events arrive: each object keeps what it processed before the first of them that is at it
abbrev pub received : List Event → Share → Share
received es share = record share { pending = enqueue_all es share.pending }

unfoldable pub received_ahead : List Event → Share → (ℕ → ℕ) → ℕ → ℕ
received_ahead es share ahead object = leading (is_before_all (events_at object es)) (ahead_events share object (ahead object))

-- how many events of an object a commit takes
unfoldable pub due_count : ℕ → Option Key → Share → ℕ → ℕ
due_count bound cut share object = length (filter (λ e. is_due bound cut e.key) (events_at object share.pending))

-- the share without what is due
abbrev pub committed : Meaning → ℕ → Option Key → Share → Share
committed m bound cut share = record {
  states = λ object. (log_of m share object (due_count bound cut share object)).state;
  pending = filter (λ e. not (is_due bound cut e.key)) share.pending;
}

abbrev pub committed_ahead : ℕ → Option Key → Share → (ℕ → ℕ) → ℕ → ℕ
committed_ahead bound cut share ahead object = ahead object - due_count bound cut share object

-- what is due has been processed without a fault
pub record IsDueDone (m : Meaning) (home : ℕ → ℕ) (node bound : ℕ) (cut : Option Key) (held : NodeData) : Type 0 where
  pub waiting : AllByRecursion (λ e. is_due bound cut e.key ≡ false) held.unprocessed
  pub faults : (object : ℕ) → IsHome m home node object → (fault : Key × ℕ) → (held.log object).fault ≡ Some fault → is_due bound cut fault.0 ≡ false

-- a log without its first n events
abbrev pub without_first : ℕ → Replay → Replay
without_first n r = record r { done = drop n r.done }

-- a commit: what is due leaves the logs
pub record IsCommit (m : Meaning) (home : ℕ → ℕ) (node bound : ℕ) (cut : Option Key) (share : Share) (old new : NodeData) : Type 0 where
  pub logs : (object : ℕ) → IsHome m home node object → new.log object ≡ without_first (due_count bound cut share object) (old.log object)
  pub waits : new.unprocessed ≡ old.unprocessed

-- a receipt: each object is rolled back to before the first event that arrives at it, and what is undone waits again
pub record IsReceipt (m : Meaning) (home : ℕ → ℕ) (node : ℕ) (es : List Event) (share : Share) (ahead : ℕ → ℕ) (old new : NodeData) : Type 0 where
  pub logs : (object : ℕ) → IsHome m home node object → new.log object ≡ log_of m share object (received_ahead es share ahead object)
  pub ordered : IsAscending new.unprocessed
  pub homed : AllByRecursion (IsAtHome m home node) new.unprocessed
  pub waits : (object : ℕ) → IsHome m home node object
      → events_at object new.unprocessed ≡ enqueue_all (events_at object es) (drop (received_ahead es share ahead object) (ahead_events share object (ahead object)) ++ events_at object old.unprocessed)

-- a rollback: each object goes back so far, and what is undone waits again
pub record IsRollback (m : Meaning) (home : ℕ → ℕ) (node : ℕ) (share : Share) (less : ℕ → ℕ) (new : NodeData) : Type 0 where
  pub logs : (object : ℕ) → IsHome m home node object → new.log object ≡ log_of m share object (less object)
  pub ordered : IsAscending new.unprocessed
  pub homed : AllByRecursion (IsAtHome m home node) new.unprocessed
  pub waits : (object : ℕ) → IsHome m home node object → events_at object new.unprocessed ≡ drop (less object) (events_at object share.pending)
