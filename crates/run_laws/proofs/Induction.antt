-- What holds at the start and is kept by each event holds in every reached state.
use Rattle.std.proofs.Common.{◌≡◌, ℕ, zero, suc, List, [], ◌∷◌, ◌++◌, refl, sym, ap, ◌∙◌, subst, append-nil}
use Rattle.event_key.specs.declared.key.Key.{Key}
use Rattle.model_core.specs.declared.note.Note.{Note}
use Rattle.model_core.specs.Meaning.{Meaning}
use Rattle.sim_spec.specs.declared.terms.Terms.{Terms}
use Rattle.sim_spec.specs.declared.stop.Stop.{Stop}
use Rattle.sim_spec.specs.State.{State, initial_state}
use Rattle.sim_spec.specs.Run.{Next, stops, does, next}
use Rattle.run_laws.specs.Reached.{left_by, after_events, Reaches, gathered, record_of, first_records}

-- one event more
pub after_events-does : (m : Meaning) (t : Terms) (n : ℕ) (told : Key × Note) (after : State) → next m t (after_events n m t) ≡ does told after → after_events (suc n) m t ≡ after
unfolding after_events left_by
after_events-does m t n told after is_next = ap (left_by (after_events n m t)) is_next

-- none, since the simulation has stopped
pub after_events-stops : (m : Meaning) (t : Terms) (n : ℕ) (stop : Stop) → next m t (after_events n m t) ≡ stops stop → after_events (suc n) m t ≡ after_events n m t
unfolding after_events left_by
after_events-stops m t n stop is_next = ap (left_by (after_events n m t)) is_next

-- what one event more gives
pub gathered-more : {A : Type 0} (of : State → Next → List A) (m : Meaning) (t : Terms) (n : ℕ) (x : Next) → next m t (after_events n m t) ≡ x
    → gathered of (suc n) m t ≡ gathered of n m t ++ of (after_events n m t) x
unfolding gathered
gathered-more of m t n x is_next = ap (λ x. gathered of n m t ++ of (after_events n m t) x) is_next

by_next : (m : Meaning) (t : Terms) (n : ℕ) (Q : ℕ → Type 0)
    → ((stop : Stop) → next m t (after_events n m t) ≡ stops stop → Q (suc n))
    → ((told : Key × Note) (after : State) → next m t (after_events n m t) ≡ does told after → Q (suc n))
    → (x : Next) → next m t (after_events n m t) ≡ x → Q (suc n)
by_next m t n Q halts goes (stops stop) is_next = halts stop is_next
by_next m t n Q halts goes (does told after) is_next = goes told after is_next

-- what holds after no event, and is kept by each one, holds after any number of them
pub each_number : (m : Meaning) (t : Terms) (Q : ℕ → Type 0) → Q zero
    → ((n : ℕ) (stop : Stop) → next m t (after_events n m t) ≡ stops stop → Q n → Q (suc n))
    → ((n : ℕ) (told : Key × Note) (after : State) → next m t (after_events n m t) ≡ does told after → Q n → Q (suc n))
    → (n : ℕ) → Q n
each_number m t Q first halts goes zero = first
each_number m t Q first halts goes (suc n) =
    let before : Q n = each_number m t Q first halts goes n in
    by_next m t n Q (λ stop is_next. halts n stop is_next before) (λ told after is_next. goes n told after is_next before) (next m t (after_events n m t)) refl

-- what holds at the start, and is kept by each event from a reached state, holds in every reached state
pub each_reached : (m : Meaning) (t : Terms) (P : State → Type 0) → P (initial_state m)
    → ((s : State) (told : Key × Note) (after : State) → Reaches m t s → next m t s ≡ does told after → P s → P after)
    → (s : State) → Reaches m t s → P s
unfolding after_events
each_reached m t P first keeps s reached =
    subst P reached.1 (each_number m t (λ n. P (after_events n m t)) first
    (λ n stop is_next here. subst P (sym (after_events-stops m t n stop is_next)) here)
    (λ n told after is_next here. subst P (sym (after_events-does m t n told after is_next)) (keeps (after_events n m t) told after (n, refl) is_next here))
    reached.0)

-- what holds at the start and of no records, and is kept by each event and its record, holds of the first n records
pub each_recorded : (m : Meaning) (t : Terms) (P : State → List (Key × Note) → Type 0) → P (initial_state m) []
    → ((n : ℕ) (told : Key × Note) (after : State) → next m t (after_events n m t) ≡ does told after → P (after_events n m t) (first_records n m t) → P after (first_records n m t ++ told ∷ []))
    → (n : ℕ) → P (after_events n m t) (first_records n m t)
unfolding after_events gathered
each_recorded m t P first keeps =
    each_number m t (λ n. P (after_events n m t) (first_records n m t)) first
    (λ n stop is_next before.
    let records : first_records (suc n) m t ≡ first_records n m t = gathered-more record_of m t n (stops stop) is_next ∙ append-nil (first_records n m t) in
    subst (λ (s : State). P s (first_records (suc n) m t)) (sym (after_events-stops m t n stop is_next))
    (subst (λ (rs : List (Key × Note)). P (after_events n m t) rs) (sym records) before))
    (λ n told after is_next before.
    let records : first_records (suc n) m t ≡ first_records n m t ++ told ∷ [] = gathered-more record_of m t n (does told after) is_next in
    subst (λ (s : State). P s (first_records (suc n) m t)) (sym (after_events-does m t n told after is_next))
    (subst (λ (rs : List (Key × Note)). P after rs) (sym records) (keeps n told after is_next before)))
