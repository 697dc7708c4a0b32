-- The states that a run reaches, and what happens on the way there.
use Rattle.std.specs.Prelude.{◌≡◌, ℕ, zero, suc, List, [], ◌∷◌, ◌++◌}
use Rattle.event_key.specs.declared.key.Key.{Key}
use Rattle.model_core.specs.declared.note.Note.{Note}
use Rattle.model_core.specs.Meaning.{Meaning}
use Rattle.sim_spec.specs.declared.terms.Terms.{Terms}
use Rattle.sim_spec.specs.State.{State, initial_state}
use Rattle.sim_spec.specs.Run.{Next, stops, does, next}

-- the state that the next event leaves; a simulation that has stopped stays where it is
unfoldable pub left_by : State → Next → State
left_by s (stops stop) = s
left_by s (does told after) = after

-- the state after n events of the run, or its last state where it has fewer
unfoldable pub after_events : ℕ → Meaning → Terms → State
after_events zero m t = initial_state m
after_events (suc n) m t = left_by (after_events n m t) (next m t (after_events n m t))

-- events lead from the initial state to this one
abbrev pub Reaches : Meaning → Terms → State → Type 0
Reaches m t s = (n : ℕ) × (after_events n m t ≡ s)

-- what the first n events give, one after another: `of` says what comes next from a state gives
unfoldable pub gathered : {A : Type 0} → (State → Next → List A) → ℕ → Meaning → Terms → List A
gathered of zero m t = []
gathered of (suc n) m t = gathered of n m t ++ of (after_events n m t) (next m t (after_events n m t))

-- what an event tells
abbrev pub record_of : State → Next → List (Key × Note)
record_of s (stops stop) = []
record_of s (does told after) = told ∷ []

-- the records of the first n events
abbrev pub first_records : ℕ → Meaning → Terms → List (Key × Note)
first_records = gathered record_of
