-- What a closed cycle commits, and what it leaves.
use Rattle.std.specs.Prelude.{Contains, not, ◌≡◌, ℕ, ◌-◌, ◌+◌, ◌<◌, ◌≤◌, false, Bool, ◌&&◌, ◌==◌, List, [], ◌∷◌, length, filter, drop, if◌then◌else◌, zero, suc, Option, Some, None}
use Rattle.event_key.specs.declared.key.Key.{Key}
use Rattle.event_key.specs.Keys.{key_lt}
use Rattle.model_core.specs.declared.event.Event.{Event}
use Rattle.model_core.specs.Meaning.{Meaning}
use Rattle.sim_spec.specs.declared.terms.Terms.{Terms}
use Rattle.sim_spec.specs.Firing.{Firing}
use Rattle.sim_spec.specs.State.{State, Lawful}
use Rattle.sim_spec.specs.Horizon.{horizon_bucket, reach}
use Rattle.sim_spec.specs.Cut.{events_of, emissions_of, committed_events, after}
use Rattle.sim_spec.specs.Replay.{early_replay, events_at, done_at}
use Rattle.world_spec.specs.Early.{early_events, is_before_all, RunsAhead, IsClosed, kept}
use Rattle.key_order.specs.Due.{is_due}

-- the least fault below the bound, or none
abbrev pub IsLeastFault : Meaning → State → (ℕ → ℕ) → ℕ → Option (Key × ℕ) → Type 0
IsLeastFault m s ahead bound None =
    (object : ℕ) → object < m.objects → (met : Key × ℕ) → (early_replay m s object (ahead object)).fault ≡ Some met → bound ≤ met.0.stamp
IsLeastFault m s ahead bound (Some fault) =
    (fault.0.dest < m.objects)
    × ((early_replay m s fault.0.dest (ahead fault.0.dest)).fault ≡ Some fault)
    × (fault.0.stamp < bound)
    × ((object : ℕ) → object < m.objects → (met : Key × ℕ) → (early_replay m s object (ahead object)).fault ≡ Some met → key_lt met.0 fault.0 ≡ false)

-- the key at which a bucket with these events left and this fault is cut
abbrev pub first_key : List (Event × Firing) → Option Key → Option Key
first_key [] key = key
first_key (d ∷ ds) key = Some d.0.key

abbrev pub fault_key : Option (Key × ℕ) → Option Key
fault_key None = None
fault_key (Some fault) = Some fault.0

-- the key of the first event of the bucket that isn't committed, or of its fault
unfoldable pub cut_key : Meaning → Terms → State → Option Key
cut_key m t s = first_key (drop (t.limit - s.count) (horizon_bucket m t s).done) (fault_key (horizon_bucket m t s).fault)

-- the bound at which a cycle is closed gives the bucket: each of its events is processed, the bound is its horizon
-- where it has no fault, its fault is the least one below the bound, and what is due is what it commits
pub record IsCycleOf (m : Meaning) (t : Terms) (s : State) (ahead : ℕ → ℕ) (bound : ℕ) : Type 0 where
  pub reached : reach m t s ≤ bound
  pub processed : (object : ℕ) → object < m.objects → length (done_at object (horizon_bucket m t s).done) ≤ ahead object
  pub horizon : (horizon_bucket m t s).fault ≡ None → bound ≡ (horizon_bucket m t s).horizon
  pub fault : IsLeastFault m s ahead bound (horizon_bucket m t s).fault
  pub whole : (object : ℕ) → object < m.objects
      → filter (λ d. is_due bound (fault_key (horizon_bucket m t s).fault) d.0.key) (early_replay m s object (ahead object)).done ≡ done_at object (horizon_bucket m t s).done
  pub committed : (object : ℕ) → object < m.objects
      → filter (λ d. is_due bound (cut_key m t s) d.0.key) (early_replay m s object (ahead object)).done ≡ done_at object (committed_events m t s)
  pub lawful : Lawful m t (after m t s)
  pub left : RunsAhead m t (after m t s) (kept s (committed_events m t s) ahead)

abbrev pub CycleLaw : Meaning → Terms → Type 0
CycleLaw m t = (s : State) (ahead : ℕ → ℕ) (bound : ℕ) → Lawful m t s → RunsAhead m t s ahead → IsClosed m t s ahead bound → IsCycleOf m t s ahead bound

-- the event doesn't come before each message that these send to its object
abbrev pub is_late : List (Event × Firing) → Event → Bool
is_late done e = not (is_before_all (events_at e.key.dest (emissions_of done)) e)

-- how many processed events of an object are undone at the end of the cycle
abbrev pub undone_at : Meaning → Terms → State → (ℕ → ℕ) → ℕ → ℕ
undone_at m t s ahead object = (ahead object - length (done_at object (committed_events m t s))) - kept s (committed_events m t s) ahead object

-- how many of the first n objects' processed events are undone at a node
unfoldable pub undone_upto : Meaning → Terms → State → (ℕ → ℕ) → (ℕ → ℕ) → ℕ → ℕ → ℕ
undone_upto m t s home ahead node zero = 0
undone_upto m t s home ahead node (suc n) = undone_upto m t s home ahead node n + (if home n == node then undone_at m t s ahead n else 0)

-- what was processed and isn't committed stays processed where it comes before each message to its object, and at
-- a node no more is undone than the events that were pending there, aren't committed, and are late
pub record IsCarried (m : Meaning) (t : Terms) (s : State) (ahead : ℕ → ℕ) : Type 0 where
  pub stays : (object : ℕ) → object < m.objects → (e : Event)
      → Contains (early_events s object (ahead object)) e → (Contains (events_of (committed_events m t s)) e → ⊥) → is_late (committed_events m t s) e ≡ false
      → Contains (early_events (after m t s) object (kept s (committed_events m t s) ahead object)) e
  pub undone_at_object : (object : ℕ) → object < m.objects
      → undone_at m t s ahead object ≤ length (filter (is_late (committed_events m t s)) (events_at object (drop (length (committed_events m t s)) s.pending)))
  pub undone_at_node : (home : ℕ → ℕ) (node : ℕ)
      → undone_upto m t s home ahead node m.objects
      ≤ length (filter (λ e. is_late (committed_events m t s) e && home e.key.dest == node) (drop (length (committed_events m t s)) s.pending))

abbrev pub CarriedLaw : Meaning → Terms → Type 0
CarriedLaw m t = (s : State) (ahead : ℕ → ℕ) (bound : ℕ) → Lawful m t s → RunsAhead m t s ahead → IsClosed m t s ahead bound → IsCarried m t s ahead
