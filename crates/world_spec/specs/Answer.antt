-- What a cycle answers, from the keys that are processed below its bound, the least fault among them, and the records.
use Rattle.std.specs.Prelude.{◌≡◌, ℕ, ◌-◌, ◌<◌, ◌≤◌, Bool, List, [], ◌∷◌, map, filter, drop, length, ◌==◌, Option, Some, None, nat_lt, ◌||◌, ◌&&◌, is_some, if◌then◌else◌}
use Rattle.event_key.specs.declared.key.Key.{Key}
use Rattle.model_core.specs.declared.event.Event.{Event}
use Rattle.model_core.specs.declared.note.Note.{Note}
use Rattle.model_core.specs.Meaning.{Meaning}
use Rattle.sim_spec.specs.declared.bucket.Bucket.{Bucket}
use Rattle.sim_spec.specs.declared.terms.Terms.{Terms}
use Rattle.sim_spec.specs.State.{State, Lawful}
use Rattle.sim_spec.specs.Cut.{committed_events, cut, records_of}
use Rattle.world_spec.specs.Early.{early_events, RunsAhead, IsClosed}
use Rattle.key_order.specs.Due.{is_uncut}
use Rattle.world_spec.specs.Closed.{IsLeastFault, fault_key, cut_key}
use Rattle.key_order.specs.Ascending.{Ascends}

abbrev pub keys_of : List Event → List Key
keys_of = map (λ e. e.key)

-- keys in order, at each object those of its processed events below the bound
pub record AreKeysBelow (m : Meaning) (s : State) (ahead : ℕ → ℕ) (bound : ℕ) (keys : List Key) : Type 0 where
  pub ordered : Ascends (λ (k : Key). k) keys
  pub inside : (object : ℕ) → m.objects ≤ object → filter (λ (k : Key). k.dest == object) keys ≡ []
  pub parts : (object : ℕ) → object < m.objects
      → filter (λ (k : Key). k.dest == object) keys ≡ keys_of (filter (λ e. nat_lt e.key.stamp bound) (early_events s object (ahead object)))

-- the first key that isn't committed, the fault of the bucket, and whether the limit cuts it
pub record CutData : Type 0 where
  pub below : Option Key
  pub fault : Option (Key × ℕ)
  pub limited : Bool

abbrev pub first_of : List Key → Option Key → Option Key
first_of [] key = key
first_of (k ∷ ks) key = Some k

-- where a bucket with these keys and this fault is cut, when so many events are left
unfoldable pub cut_of : ℕ → List Key → Option (Key × ℕ) → CutData
cut_of left keys fault =
    let limited = nat_lt left (length keys) || (left == length keys && is_some fault) in
    record {
      below = first_of (drop left keys) (fault_key fault);
      fault = if limited then None else fault;
      limited = limited;
    }

-- the cut of the keys before the least fault
abbrev pub cut_below : ℕ → List Key → Option (Key × ℕ) → CutData
cut_below left keys fault = cut_of left (filter (is_uncut (fault_key fault)) keys) fault

-- the bucket that a cycle puts together from its bound, its cut and its records
abbrev pub answer_of : ℕ → CutData → List (Key × Note) → Bucket
answer_of bound c records = record {
  done = records;
  horizon = if c.limited then 0 else (if is_some c.fault then 0 else bound);
  fault = c.fault;
  limited = c.limited;
}

-- what is put together is the bucket of the state
pub record IsAnswer (m : Meaning) (t : Terms) (s : State) (bound : ℕ) (c : CutData) : Type 0 where
  pub below : c.below ≡ cut_key m t s
  pub bucket : answer_of bound c (records_of (committed_events m t s)) ≡ cut m t s

abbrev pub AnswerLaw : Meaning → Terms → Type 0
AnswerLaw m t =
    (s : State) (ahead : ℕ → ℕ) (bound : ℕ) (keys : List Key) (fault : Option (Key × ℕ))
    → Lawful m t s → RunsAhead m t s ahead → IsClosed m t s ahead bound → AreKeysBelow m s ahead bound keys → IsLeastFault m s ahead bound fault
    → IsAnswer m t s bound (cut_below (t.limit - s.count) keys fault)
