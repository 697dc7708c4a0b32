-- One event after another, in the order of their keys.
use Rattle.std.specs.Prelude.{◌≡◌, ℕ, zero, suc, ◌+◌, ◌-◌, List, [], ◌∷◌, ◌++◌, if◌then◌else◌, nat_lt, ◌==◌, slice_set}
use Rattle.event_key.specs.declared.key.Key.{Key}
use Rattle.event_key.specs.Stamps.{end_stamp}
use Rattle.model_core.specs.declared.event.Event.{Event}
use Rattle.model_core.specs.declared.note.Note.{Note}
use Rattle.model_core.specs.Meaning.{Meaning}
use Rattle.sim_spec.specs.declared.terms.Terms.{Terms}
use Rattle.sim_spec.specs.declared.stop.Stop.{Stop}
use Rattle.sim_spec.specs.declared.stop.Stop.TheVariants.{End, Limit, Fault}
use Rattle.sim_spec.specs.Firing.{Fired, goes, fails, fire}
use Rattle.key_order.specs.Pending.{enqueue_all}
use Rattle.sim_spec.specs.State.{State, object_at}

-- what comes next: the simulation stops, or an event is done and told, and leaves a state
pub data Next : Type 0 where
  stops : Stop → Next
  does : Key × Note → State → Next

-- what comes of the first pending event, with those behind it
unfoldable pub next_fired : State → Event → List Event → Fired → Next
next_fired s e rest (fails code) = stops (Fault e.key code)
next_fired s e rest (goes x) = does (e.key, x.note) (record {
  objects = slice_set s.objects e.key.dest x.state;
  pending = enqueue_all x.events rest;
  count = s.count + 1;
})

-- the end comes before the limit, and the limit before the event
unfoldable pub next_of : Meaning → Terms → State → List Event → Next
next_of m t s [] = stops End
next_of m t s (e ∷ rest) =
    if nat_lt e.key.stamp (end_stamp t.end)
    then (if s.count == t.limit then stops Limit
    else next_fired s e rest (fire m e.key.dest (object_at s.objects e.key.dest) e))
    else stops End

unfoldable pub next : Meaning → Terms → State → Next
next m t s = next_of m t s s.pending

-- the records of what happened, the last state, and why nothing happens after it
pub record Run : Type 0 where
  pub records : List (Key × Note)
  pub last : State
  pub stop : Stop

-- a run with records before it
abbrev pub after_records : List (Key × Note) → Run → Run
after_records records r = record r { records = records ++ r.records }

-- the run from a state whose next thing this is
unfoldable pub run_on : State → (State → Run) → Next → Run
run_on s more (stops stop) = record { records = []; last = s; stop = stop }
run_on s more (does told after) = after_records (told ∷ []) (more after)

-- at most n things
unfoldable pub run_for : ℕ → Meaning → Terms → State → Run
run_for zero m t s = record { records = []; last = s; stop = Limit }
run_for (suc n) m t s = run_on s (run_for n m t) (next m t s)

-- until it stops: each event takes the count nearer to the limit
unfoldable pub run : Meaning → Terms → State → Run
run m t s = run_for (suc (t.limit - s.count)) m t s

-- events lead from one state to another
unfoldable pub Leads : Meaning → Terms → State → List (Key × Note) → State → Type 0
Leads m t s [] last = s ≡ last
Leads m t s (told ∷ rest) last = (mid : State) × (next m t s ≡ does told mid) × Leads m t mid rest last
