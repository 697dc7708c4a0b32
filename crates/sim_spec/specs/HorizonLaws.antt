-- Laws of buckets and cycles, over the definitions alone.
use Rattle.std.specs.Prelude.{◌≡◌, ◌≢◌, ◌⊎◌, ℕ, ◌<◌, ◌≤◌, true, false, List, ◌∷◌, ◌++◌, length, drop, Option, Some, None, IsSome}
use Rattle.std.specs.List.{AllByRecursion}
use Rattle.event_key.specs.declared.key.Key.{Key}
use Rattle.event_key.specs.Keys.{key_lt}
use Rattle.event_key.specs.Stamps.{end_stamp}
use Rattle.model_core.specs.declared.event.Event.{Event}
use Rattle.model_core.specs.Meaning.{Meaning}
use Rattle.sim_spec.specs.declared.stop.Stop.TheVariants.{End, Limit, Fault}
use Rattle.sim_spec.specs.declared.terms.Terms.{Terms}
use Rattle.sim_spec.specs.Firing.{ObjectState, fails, fire}
use Rattle.sim_spec.specs.State.{State, Lawful, object_at}
use Rattle.sim_spec.specs.Run.{stops, next, run, after_records, Leads}
use Rattle.sim_spec.specs.Horizon.{HorizonBucket, horizon_bucket, reach_of}
use Rattle.sim_spec.specs.Cut.{events_of, objects_after, after, cut}
use Rattle.sim_spec.specs.Cycles.{cycles, cycles_on, run_of}
use Rattle.sim_spec.specs.Replay.{replay, events_at, done_at, early_replay, EmitsFrom}

-- what the bucket of a state does is what the run does next
pub record IsNextOfRun (m : Meaning) (t : Terms) (s : State) : Type 0 where
  pub leads : Leads m t s (cut m t s).done (after m t s)
  pub lawful : Lawful m t (after m t s)
  pub run : run m t s ≡ after_records (cut m t s).done (run m t (after m t s))
  pub fault : (fault : Key × ℕ) → (cut m t s).fault ≡ Some fault → next m t (after m t s) ≡ stops (Fault fault.0 fault.1)
  pub limited : (cut m t s).limited ≡ true → next m t (after m t s) ≡ stops Limit

abbrev pub BucketLaw : Meaning → Terms → Type 0
BucketLaw m t = (s : State) → Lawful m t s → IsNextOfRun m t s

-- bucket by bucket or event by event: the same records, the same last state and the same stop
abbrev pub CyclesLaw : Meaning → Terms → Type 0
CyclesLaw m t = (s : State) → Lawful m t s → run_of (cycles m t s) ≡ run m t s

-- where something is left to fire, a bucket has an event or a fault
abbrev pub MovesLaw : Meaning → Terms → Type 0
MovesLaw m t = (s : State) → Lawful m t s → next m t s ≢ stops End → next m t s ≢ stops Limit → (0 < length (cut m t s).done) ⊎ IsSome (cut m t s).fault

-- cycles are a bucket and the cycles after it, however many there are, and stop where nothing is left to do
pub record CyclesEnd (m : Meaning) (t : Terms) (s : State) : Type 0 where
  pub unfolds : cycles m t s ≡ cycles_on s (cut m t s) (after m t s) (cycles m t) (next m t s)
  pub stop : next m t (cycles m t s).last ≡ stops (cycles m t s).stop

abbrev pub EndsLaw : Meaning → Terms → Type 0
EndsLaw m t = (s : State) → Lawful m t s → CyclesEnd m t s

-- a key below the horizon of a bucket, or before the fault where it has one
abbrev pub IsBefore : ℕ → Option (Key × ℕ) → Key → Type 0
IsBefore h None key = key.stamp < h
IsBefore h (Some fault) key = key_lt key fault.0 ≡ true

-- a key that is neither
abbrev pub IsPast : ℕ → Option (Key × ℕ) → Key → Type 0
IsPast h None key = h ≤ key.stamp
IsPast h (Some fault) key = key_lt key fault.0 ≡ false

-- the first pending event behind the bucket, at the objects as the bucket leaves them, has this fault
pub record IsNextFault (m : Meaning) (objects : List ObjectState) (pending : List Event) (b : HorizonBucket) (fault : Key × ℕ) : Type 0 where
  pub event : Event
  pub behind : List Event
  pub first : drop (length b.done) pending ≡ event ∷ behind
  pub key : event.key ≡ fault.0
  pub early : event.key.stamp < b.horizon
  pub fails : fire m event.key.dest (object_at (objects_after objects b.done) event.key.dest) event ≡ fails fault.1

-- a bucket is exactly the pending events before its end, and its horizon is the end bound or the least stamp
-- of all that it sends
pub record IsBelowHorizon (m : Meaning) (t : Terms) (s : State) (b : HorizonBucket) : Type 0 where
  pub first : s.pending ≡ events_of b.done ++ drop (length b.done) s.pending
  pub before : AllByRecursion (λ e. IsBefore b.horizon b.fault e.key) (events_of b.done)
  pub past : AllByRecursion (λ e. IsPast b.horizon b.fault e.key) (drop (length b.done) s.pending)
  pub within : b.horizon ≤ end_stamp t.end
  pub emits : EmitsFrom b.horizon b.done
  pub greatest : (g : ℕ) → g ≤ end_stamp t.end → EmitsFrom g b.done → g ≤ b.horizon
  pub fault : (fault : Key × ℕ) → b.fault ≡ Some fault → IsNextFault m s.objects s.pending b fault

abbrev pub HorizonLaw : Meaning → Terms → Type 0
HorizonLaw m t = (s : State) → Lawful m t s → IsBelowHorizon m t s (horizon_bucket m t s)

-- an object's part of a bucket is its own replay, and nothing that it does early comes before the bucket's end
pub record IsOwnReplay (m : Meaning) (s : State) (b : HorizonBucket) (object : ℕ) : Type 0 where
  pub prefix : events_at object s.pending ≡ events_at object (events_of b.done) ++ events_at object (drop (length b.done) s.pending)
  pub outcomes : replay m object (object_at s.objects object) (events_at object (events_of b.done))
      ≡ record { done = done_at object b.done; fault = None; state = object_at (objects_after s.objects b.done) object }
  pub sends : (n : ℕ) → EmitsFrom (reach_of b) (early_replay m s object n).done
  pub faults : (n : ℕ) (met : Key × ℕ) → (early_replay m s object n).fault ≡ Some met → IsPast b.horizon b.fault met.0
  pub faulted : (n : ℕ) (fault : Key × ℕ) → b.fault ≡ Some fault → fault.0.dest ≡ object → length (done_at object b.done) < n
      → early_replay m s object n ≡ record { done = done_at object b.done; fault = Some fault; state = object_at (objects_after s.objects b.done) object }

abbrev pub ObjectsLaw : Meaning → Terms → Type 0
ObjectsLaw m t = (s : State) → Lawful m t s → (object : ℕ) → object < m.objects → IsOwnReplay m s (horizon_bucket m t s) object
