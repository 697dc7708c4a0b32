-- What one cycle commits: the bucket, as far as the limit lets its events happen, and the state after them.
use Rattle.std.specs.Prelude.{ℕ, ◌+◌, ◌-◌, Bool, ◌&&◌, ◌||◌, List, [], ◌∷◌, ◌++◌, length, map, take, drop, if◌then◌else◌, nat_lt, ◌==◌, is_some, slice_set, None}
use Rattle.event_key.specs.declared.key.Key.{Key}
use Rattle.model_core.specs.declared.event.Event.{Event}
use Rattle.model_core.specs.declared.note.Note.{Note}
use Rattle.model_core.specs.Meaning.{Meaning}
use Rattle.sim_spec.specs.declared.bucket.Bucket.{Bucket}
use Rattle.sim_spec.specs.declared.terms.Terms.{Terms}
use Rattle.sim_spec.specs.Firing.{ObjectState, Firing}
use Rattle.key_order.specs.Pending.{enqueue_all}
use Rattle.sim_spec.specs.State.{State}
use Rattle.sim_spec.specs.Horizon.{HorizonBucket, horizon_bucket}

-- the events themselves
abbrev pub events_of : List (Event × Firing) → List Event
events_of = map (λ d. d.0)

-- what is told of them
abbrev pub records_of : List (Event × Firing) → List (Key × Note)
records_of = map (λ d. (d.0.key, d.1.note))

-- all that they send, in order
unfoldable pub emissions_of : List (Event × Firing) → List Event
emissions_of [] = []
emissions_of (d ∷ ds) = d.1.events ++ emissions_of ds

-- the objects after them
unfoldable pub objects_after : List ObjectState → List (Event × Firing) → List ObjectState
objects_after objects [] = objects
objects_after objects (d ∷ ds) = objects_after (slice_set objects d.0.key.dest d.1.state) ds

-- the state once its first pending events are done
unfoldable pub state_with_done : State → List (Event × Firing) → State
state_with_done s done = record {
  objects = objects_after s.objects done;
  pending = enqueue_all (emissions_of done) (drop (length done) s.pending);
  count = s.count + length done;
}

-- more is due than the events that are left: another event, or the one that fails
unfoldable pub is_limited : ℕ → HorizonBucket → Bool
is_limited left b = nat_lt left (length b.done) || (left == length b.done && is_some b.fault)

-- the events of the bucket that happen: as many as the limit still lets happen
unfoldable pub committed_events : Meaning → Terms → State → List (Event × Firing)
committed_events m t s = take (t.limit - s.count) (horizon_bucket m t s).done

-- the state after the cycle
unfoldable pub after : Meaning → Terms → State → State
after m t s = state_with_done s (committed_events m t s)

-- what the cycle commits; there is a horizon only where the bucket met neither the limit nor a fault
unfoldable pub cut : Meaning → Terms → State → Bucket
cut m t s =
    let b = horizon_bucket m t s in
    let limited = is_limited (t.limit - s.count) b in
    record {
      done = records_of (committed_events m t s);
      horizon = if limited then 0 else (if is_some b.fault then 0 else b.horizon);
      fault = if limited then None else b.fault;
      limited = limited;
    }
