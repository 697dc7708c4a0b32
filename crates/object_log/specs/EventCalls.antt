-- What the calls of the log of many objects answer and leave.
use Rattle.std.specs.Prelude.{◌≡◌, ◌≢◌, ℕ, ◌<◌, not, List, [], length, filter, map, slice_index_or, IsPermutation, nat_lt, Option, Some, None}
use Rattle.event_key.specs.declared.key.Key.{Key}
use Rattle.model_core.specs.declared.event.Event.{Event}
use Rattle.model_core.specs.declared.note.Note.{Note}
use Rattle.model_core.specs.Meaning.{Meaning}
use Rattle.sim_spec.specs.Firing.{ObjectState}
use Rattle.object_log.specs.Dones.{Done}
use Rattle.object_log.specs.Logs.{undone, events_of, held_of}
use Rattle.object_log.specs.Parts.{from_key, due_of, left_of}
use Rattle.object_log.specs.Replays.{IsOneMore}
use Rattle.object_log.specs.EventLogs.{EventLogView, ObjectView, dones_at, done_key, log_with, rolled_back, state_in}
use Rattle.object_log.specs.Flat.{goes_to}
use Rattle.object_log.specs.Tellings.{told_all}
use Rattle.object_log.specs.Weave.{insert}

-- the state of one object, and what is processed there, changed; the others are as they were
pub record ChangesAt (object : ℕ) (old new : EventLogView) (was now : ObjectState) : Type 0 where
  pub before : state_in old.objects object ≡ Some was
  pub after : state_in new.objects object ≡ Some now
  pub states : (other : ℕ) → other ≢ object → state_in new.objects other ≡ state_in old.objects other
  pub numbers : map (λ (o : ObjectView). o.object) new.objects ≡ map (λ (o : ObjectView). o.object) old.objects
  pub dones : (other : ℕ) → other ≢ object → dones_at other new.done ≡ dones_at other old.done

-- one event more
pub record HasProcessed (m : Meaning) (old new : EventLogView) (event : Event) (least : ℕ) : Type 0 where
  pub was : ObjectState
  pub now : ObjectState
  pub changes : ChangesAt event.key.dest old new was now
  pub more : IsOneMore m (log_with old.done event.key.dest was) (log_with new.done event.key.dest now) event least
  pub place : new.done ≡ insert done_key more.entry old.done

-- the events of an object that don't come before a key were undone
pub record HasGoneBack (object : ℕ) (key : Key) (old new : EventLogView) (into : List Event) : Type 0 where
  pub was : ObjectState
  pub done : new.done ≡ rolled_back object key old.done
  pub changes : ChangesAt object old new was (undone was (from_key key (dones_at object old.done)))
  pub events : into ≡ events_of (from_key key (dones_at object old.done))

-- the state of an object once all from a horizon on is undone
abbrev pub undone_or : ℕ → List Done → Option ObjectState → Option ObjectState
undone_or horizon ds None = None
undone_or horizon ds (Some s) = Some (undone s (filter (λ d. not (nat_lt d.event.key.stamp horizon)) ds))

pub record HasUndoneFrom (horizon : ℕ) (old new : EventLogView) (into : List Event) : Type 0 where
  pub done : new.done ≡ filter (λ d. nat_lt d.event.key.stamp horizon) old.done
  pub states : (object : ℕ) → state_in new.objects object ≡ undone_or horizon (dones_at object old.done) (state_in old.objects object)
  pub events : into ≡ events_of (filter (λ d. not (nat_lt d.event.key.stamp horizon)) old.done)

-- what was due is told in the order of the keys, and what it sent lies in the chains of its homes, in whatever order
pub record HasCommitted (nodes : ℕ) (home : ℕ → ℕ) (horizon : ℕ) (cut : Option Key) (old new : EventLogView) (told : List (Key × Note)) (out : List (List Event)) : Type 0 where
  pub objects : new.objects ≡ old.objects
  pub done : new.done ≡ left_of horizon cut old.done
  pub told_is : told ≡ told_all (due_of horizon cut old.done)
  pub long : length out ≡ nodes
  pub parcels : (to : ℕ) → to < nodes → IsPermutation (filter (goes_to home to) (held_of (due_of horizon cut old.done))) (slice_index_or out to [])
