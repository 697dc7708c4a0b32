-- One bucket after another: Breathing Time Buckets on one list of pending events
-- (Steinman, "SPEEDES: A Multiple-Synchronization Environment for Parallel Discrete-Event Simulation", 1992).
use Rattle.std.specs.Prelude.{ℕ, zero, suc, ◌-◌, Bool, List, [], ◌∷◌, ◌++◌, if◌then◌else◌, Option, Some, None}
use Rattle.event_key.specs.declared.key.Key.{Key}
use Rattle.model_core.specs.declared.note.Note.{Note}
use Rattle.model_core.specs.Meaning.{Meaning}
use Rattle.sim_spec.specs.declared.bucket.Bucket.{Bucket}
use Rattle.sim_spec.specs.declared.stop.Stop.{Stop}
use Rattle.sim_spec.specs.declared.stop.Stop.TheVariants.{End, Limit, Fault}
use Rattle.sim_spec.specs.declared.terms.Terms.{Terms}
use Rattle.sim_spec.specs.State.{State}
use Rattle.sim_spec.specs.Run.{Next, stops, does, next, Run}
use Rattle.sim_spec.specs.Cut.{cut, after}

-- the buckets, the last state, and why no bucket comes after it
pub record Cycles : Type 0 where
  pub buckets : List Bucket
  pub last : State
  pub stop : Stop

-- no bucket
abbrev pub no_cycles : State → Stop → Cycles
no_cycles s stop = record { buckets = []; last = s; stop = stop }

-- cycles with a bucket before theirs
abbrev pub after_bucket : Bucket → Cycles → Cycles
after_bucket b c = record c { buckets = b ∷ c.buckets }

-- what comes after a bucket: nothing after one that isn't whole, for it met the limit or a fault
unfoldable pub cycles_behind : State → (State → Cycles) → Option (Key × ℕ) → Bool → Cycles
cycles_behind later more (Some fault) limited = no_cycles later (Fault fault.0 fault.1)
cycles_behind later more None limited = if limited then no_cycles later Limit else more later

-- a bucket and those behind it
abbrev pub cycles_with : Bucket → State → (State → Cycles) → Cycles
cycles_with b later more = after_bucket b (cycles_behind later more b.fault b.limited)

-- there is no bucket where nothing is left to fire
unfoldable pub cycles_on : State → Bucket → State → (State → Cycles) → Next → Cycles
cycles_on s b later more (stops End) = no_cycles s End
cycles_on s b later more (stops Limit) = no_cycles s Limit
cycles_on s b later more (stops (Fault key code)) = cycles_with b later more
cycles_on s b later more (does told next) = cycles_with b later more

-- at most n buckets
unfoldable pub cycles_for : ℕ → Meaning → Terms → State → Cycles
cycles_for zero m t s = no_cycles s Limit
cycles_for (suc n) m t s = cycles_on s (cut m t s) (after m t s) (cycles_for n m t) (next m t s)

-- until it stops: each bucket but the last takes the count nearer to the limit
unfoldable pub cycles : Meaning → Terms → State → Cycles
cycles m t s = cycles_for (suc (t.limit - s.count)) m t s

-- the records of buckets, one bucket after another
unfoldable pub records_of_buckets : List Bucket → List (Key × Note)
records_of_buckets [] = []
records_of_buckets (b ∷ bs) = b.done ++ records_of_buckets bs

-- the run that the cycles amount to
abbrev pub run_of : Cycles → Run
run_of c = record { records = records_of_buckets c.buckets; last = c.last; stop = c.stop }
