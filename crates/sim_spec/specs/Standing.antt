-- Where an engine stands in a simulation, when it has nothing left to do, and what a cycle of it does.
use Rattle.std.specs.Prelude.{◌≡◌, ℕ, Option, Some, None, Result, Ok, Err}
use Rattle.event_key.specs.declared.key.Key.{Key}
use Rattle.delta_exchange.specs.declared.memory.OutOfMemory.{OutOfMemory}
use Rattle.model_core.specs.Meaning.{Meaning}
use Rattle.sim_spec.specs.declared.bucket.Bucket.{Bucket}
use Rattle.sim_spec.specs.declared.stop.Stop.{Stop}
use Rattle.sim_spec.specs.declared.stop.Stop.TheVariants.{End, Limit, Fault}
use Rattle.sim_spec.specs.declared.terms.Terms.{Terms}
use Rattle.sim_spec.specs.State.{State, Lawful}
use Rattle.sim_spec.specs.Run.{Next, stops, does, next}
use Rattle.sim_spec.specs.Cut.{cut, after}

-- an engine stands at a state, with the fault of its last bucket, or nowhere once memory has run out
pub data Standing : Type 0 where
  stands : State → Option (Key × ℕ) → Standing
  spent : Standing

-- the end or the limit, where it is next: a fault is told by the bucket that meets it
unfoldable pub end_or_limit : Next → Option Stop
end_or_limit (stops End) = Some End
end_or_limit (stops Limit) = Some Limit
end_or_limit (stops (Fault key code)) = None
end_or_limit (does told later) = None

-- why no cycle comes any more, where none does
unfoldable pub ended : Meaning → Terms → Standing → Option Stop
ended m t spent = None
ended m t (stands s (Some fault)) = Some (Fault fault.0 fault.1)
ended m t (stands s None) = end_or_limit (next m t s)

-- so many events are done
unfoldable pub IsCountAt : Standing → ℕ → Type 0
IsCountAt spent count = Unit {0}
IsCountAt (stands s fault) count = count ≡ s.count

-- the state is one that a simulation can meet
unfoldable pub IsLawfulStanding : Meaning → Terms → Standing → Type 0
IsLawfulStanding m t spent = Unit {0}
IsLawfulStanding m t (stands s fault) = Lawful m t s

-- a cycle from a state answers its bucket and leaves the state after it, with the bucket's fault
pub record IsCycle (m : Meaning) (t : Terms) (old : Standing) (bucket : Bucket) (new : Standing) : Type 0 where
  pub state : State
  pub begins : old ≡ stands state None
  pub bucket_is : bucket ≡ cut m t state
  pub ends : new ≡ stands (after m t state) bucket.fault

-- what a cycle answers and leaves; where memory runs out, the engine is spent
unfoldable pub CycleGives : Meaning → Terms → Standing → Result Bucket OutOfMemory → Standing → Type 0
CycleGives m t old (Ok bucket) new = IsCycle m t old bucket new
CycleGives m t old (Err refused) new = new ≡ spent

-- an engine that stood there has done a cycle of its simulation, and has its model and its terms still
pub record DoesCycle {E : Type 0} (meaning : E → Meaning) (terms : E → Terms) (StandsIn : E → Standing → Type 0) (old : E) (at : Standing) (answer : Result Bucket OutOfMemory) (new : E) : Type 0 where
  pub left : Standing
  pub stands : StandsIn new left
  pub gives : CycleGives (meaning old) (terms old) at answer left
  pub same_meaning : meaning new ≡ meaning old
  pub same_terms : terms new ≡ terms old

-- wherever the engine stood and had not ended, it has done a cycle
abbrev pub DoesCycles : {E : Type 0} → (E → Meaning) → (E → Terms) → (E → Standing → Type 0) → E → Result Bucket OutOfMemory → E → Type 0
DoesCycles meaning terms StandsIn old answer new =
    (at : Standing) → StandsIn old at → ended (meaning old) (terms old) at ≡ None → DoesCycle meaning terms StandsIn old at answer new
