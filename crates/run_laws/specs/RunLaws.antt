-- What holds of every run.
use Rattle.std.specs.Prelude.{◌≡◌, ◌⊎◌, ℕ, suc, ◌<◌, ◌≤◌, true, List, ◌∷◌, ◌++◌, Contains, IsPermutation}
use Rattle.std.specs.List.{AllPairs}
use Rattle.event_key.specs.declared.key.Key.{Key}
use Rattle.event_key.specs.Keys.{key_lt}
use Rattle.model_core.specs.declared.event.Event.{Event}
use Rattle.model_core.specs.declared.note.Note.{Note}
use Rattle.model_core.specs.Meaning.{Meaning}
use Rattle.sim_spec.specs.declared.terms.Terms.{Terms}
use Rattle.sim_spec.specs.State.{State, Lawful, initial_state, start_event}
use Rattle.sim_spec.specs.Run.{does, next, run, after_records}
use Rattle.run_laws.specs.Reached.{after_events, Reaches, first_records}
use Rattle.run_laws.specs.Sent.{sent_next, happened, all_sent, initial_events}

abbrev pub AllReachedLawful : Meaning → Terms → Type 0
AllReachedLawful m t = (s : State) → Reaches m t s → Lawful m t s

-- the whole run is its events up to some number
pub record IsReachedAfter (m : Meaning) (t : Terms) (n : ℕ) : Type 0 where
  pub last : after_events n m t ≡ (run m t (initial_state m)).last
  pub records : first_records n m t ≡ (run m t (initial_state m)).records

abbrev pub RunIsReached : Meaning → Terms → Type 0
RunIsReached m t = (n : ℕ) × IsReachedAfter m t n

-- the states that are spoken of are those of the run
pub record StatesAreTheRuns (m : Meaning) (t : Terms) : Type 0 where
  pub run : RunIsReached m t
  pub lawful : AllReachedLawful m t

-- each record has a greater key than those before it
abbrev pub RecordsAscend : Meaning → Terms → Type 0
RecordsAscend m t = (n : ℕ) → AllPairs (λ (earlier later : Key × Note). key_lt earlier.0 later.0 ≡ true) (first_records n m t)

-- event number n of a run, counted from 0: it is the first one pending then, and it goes
pub record Happens (m : Meaning) (t : Terms) (n : ℕ) (e : Event) : Type 0 where
  pub rest : List Event
  pub told : Key × Note
  pub after : State
  pub pending : (after_events n m t).pending ≡ e ∷ rest
  pub goes : next m t (after_events n m t) ≡ does told after

-- event number k of a run sent this event, with its kind and values, to a later stamp
pub record IsCause (m : Meaning) (t : Terms) (k : ℕ) (e : Event) : Type 0 where
  pub cause : Event
  pub happens : Happens m t k cause
  pub sent : Contains (sent_next m (after_events k m t)) e
  pub earlier : cause.key.stamp < e.key.stamp

-- an initial event of the model
abbrev pub IsInitial : Meaning → Event → Type 0
IsInitial m e = (i : ℕ) × (i < m.starts) × (e ≡ start_event m i)

-- event number n is an initial one, or one before it is its cause
abbrev pub EachHasACause : Meaning → Terms → Type 0
EachHasACause m t = (n : ℕ) (e : Event) → Happens m t n e → IsInitial m e ⊎ ((k : ℕ) × (k < n) × IsCause m t k e)

-- an event is pending after n events, or was one of those from number k on
abbrev pub IsKnown : Meaning → Terms → ℕ → ℕ → Event → Type 0
IsKnown m t k n e = Contains (after_events n m t).pending e ⊎ ((j : ℕ) × (k ≤ j) × (j < n) × Happens m t j e)

-- each initial event, and each that was sent, has happened since or is pending
pub record NothingIsForgotten (m : Meaning) (t : Terms) : Type 0 where
  pub initial : (n : ℕ) (e : Event) → IsInitial m e → IsKnown m t 0 n e
  pub sent : (k n : ℕ) (e : Event) → k < n → IsCause m t k e → IsKnown m t (suc k) n e

-- causality
pub record EventsAreCaused (m : Meaning) (t : Terms) : Type 0 where
  pub causes : EachHasACause m t
  pub none_forgotten : NothingIsForgotten m t

-- those that have happened and those that are pending are the initial ones and those that were sent, each as often
abbrev pub EventsBalance : Meaning → Terms → Type 0
EventsBalance m t = (n : ℕ) → IsPermutation (happened n m t ++ (after_events n m t).pending) (initial_events m ++ all_sent n m t)

-- under a later end, or a greater limit, a run goes on from the last state of the shorter run
abbrev pub LongerRunGoesOn : Meaning → Type 0
LongerRunGoesOn m =
    (t u : Terms) → t.end ≤ u.end → t.limit ≤ u.limit
    → (let short = run m t (initial_state m) in
    run m u (initial_state m) ≡ after_records short.records (run m u short.last))
