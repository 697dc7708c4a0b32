-- What an engine does next within a bucket.
use Rattle.std.specs.Prelude.{◌≡◌, ℕ, ◌+◌, ◌<◌, ◌≤◌, min, List, [], ◌∷◌, slice_set}
use Rattle.event_key.specs.declared.key.Key.{Key}
use Rattle.event_key.specs.Stamps.{end_stamp}
use Rattle.model_core.specs.declared.event.Event.{Event}
use Rattle.model_core.specs.declared.note.Note.{Note}
use Rattle.model_core.specs.Meaning.{Meaning}
use Rattle.sim_spec.specs.declared.terms.Terms.{Terms}
use Rattle.sim_spec.specs.Firing.{ObjectState, Firing, goes, fails, fire}
use Rattle.sim_spec.specs.State.{Lawful, object_at}
use Rattle.key_order.specs.Pending.{enqueue_all}
use Rattle.key_order.specs.Stamps.{least_stamp}
use Rattle.tick_queue.specs.Queues.{IsSettled}
use Rattle.one_thread.specs.Engines.{Course, state_of}
use Rattle.one_thread.specs.declared.bucket_end.BucketEnd.{BucketEnd}
use Rattle.one_thread.specs.declared.bucket_end.BucketEnd.TheVariants.{Whole, Limit, Fault}
use Rattle.one_thread.specs.declared.turn.Turn.{Turn}
use Rattle.one_thread.specs.declared.turn.Turn.TheVariants.{Does, Ends}

-- the horizon: the least stamp of what was sent in this bucket, or the end
abbrev pub horizon_of : Terms → Course → ℕ
horizon_of t c = min c.queue.fresh_least (end_stamp t.end)

-- no event is below the horizon
abbrev pub NoneDue : ℕ → List Event → Type 0
NoneDue h [] = Unit {0}
NoneDue h (e ∷ rest) = h ≤ e.key.stamp

-- the first event is below the horizon, unless the end comes before it
abbrev pub IsOpen : Course → Type 0
IsOpen c =
    (t : Terms) (e : Event) (rest : List Event) → c.queue.pending ≡ e ∷ rest → e.key.stamp < end_stamp t.end → e.key.stamp < horizon_of t c

-- what decides about the next event
pub record Ahead : Type 0 where
  pub objects : List ObjectState
  pub events : List Event
  pub horizon : ℕ
  pub count : ℕ

-- the event is the first one, and below the horizon
pub record FirstComes (a : Ahead) (e : Event) (rest : List Event) : Type 0 where
  pub first : a.events ≡ e ∷ rest
  pub early : e.key.stamp < a.horizon

-- the event that comes goes
pub record FirstGoes (m : Meaning) (t : Terms) (a : Ahead) (key : Key) (note : Note) : Type 0 where
  pub event : Event
  pub rest : List Event
  pub firing : Firing
  pub due : FirstComes a event rest
  pub free : a.count < t.limit
  pub fires : fire m event.key.dest (object_at a.objects event.key.dest) event ≡ goes firing
  pub key_is : key ≡ event.key
  pub note_is : note ≡ firing.note

-- the event that comes fails
pub record FirstFails (m : Meaning) (t : Terms) (a : Ahead) (key : Key) (code : ℕ) : Type 0 where
  pub event : Event
  pub rest : List Event
  pub due : FirstComes a event rest
  pub free : a.count < t.limit
  pub fires : fire m event.key.dest (object_at a.objects event.key.dest) event ≡ fails code
  pub key_is : key ≡ event.key

-- no more events may be done, but one comes
pub record FirstWaits (t : Terms) (a : Ahead) : Type 0 where
  pub event : Event
  pub rest : List Event
  pub due : FirstComes a event rest
  pub full : a.count ≡ t.limit

-- what decides about the next event of a simulation under way
abbrev pub ahead_of : Terms → Course → Ahead
ahead_of t c = record { objects = c.objects; events = c.queue.pending; horizon = horizon_of t c; count = c.count }

-- an event is due
abbrev pub IsDue : Terms → Course → Event → List Event → Type 0
IsDue t c = FirstComes (ahead_of t c)

-- some event is due
abbrev pub HasDue : Terms → Course → Type 0
HasDue t c = (e : Event) × (rest : List Event) × IsDue t c e rest

-- an event is due and at hand, and may be fired
pub record MayFire (m : Meaning) (t : Terms) (c : Course) : Type 0 where
  pub lawful : Lawful m t (state_of c)
  pub settled : IsSettled c.queue
  pub due : HasDue t c
  pub free : c.count < t.limit

-- the event that is due goes, and what it sends is fresh
pub record IsDone (m : Meaning) (t : Terms) (old : Course) (key : Key) (note : Note) (new : Course) : Type 0 where
  pub went : FirstGoes m t (ahead_of t old) key note
  pub objects : new.objects ≡ slice_set old.objects went.event.key.dest went.firing.state
  pub pending : new.queue.pending ≡ enqueue_all went.firing.events went.rest
  pub fresh_least : new.queue.fresh_least ≡ least_stamp old.queue.fresh_least went.firing.events
  pub count : new.count ≡ old.count + 1

-- the event that is due fails
abbrev pub IsFailed : Meaning → Terms → Course → Key → ℕ → Type 0
IsFailed m t old = FirstFails m t (ahead_of t old)

-- no more events may be done, but one is due
abbrev pub IsFull : Terms → Course → Type 0
IsFull t c = FirstWaits t (ahead_of t c)

-- the bucket ends here, and so
abbrev pub EndsSo : Meaning → Terms → Course → BucketEnd → Type 0
EndsSo m t c (Whole horizon) = (horizon ≡ horizon_of t c) × NoneDue horizon c.queue.pending
EndsSo m t c Limit = IsFull t c
EndsSo m t c (Fault key code) = IsFailed m t c key code

-- what a turn says, tells and leaves
abbrev pub IsTurn : Meaning → Terms → Course → Turn → Note → Course → Type 0
IsTurn m t old (Does key) note new = IsDone m t old key note new
IsTurn m t old (Ends end) note new = EndsSo m t old end × (new ≡ old)
