-- Each event that happens is an initial one, or has a cause; and each that is sent happens, or is pending.
use Rattle.std.proofs.Common.{◌≡◌, ◌⊎◌, ℕ, zero, suc, ◌+◌, ◌<◌, ◌≤◌, Bool, true, false, List, [], ◌∷◌, ◌++◌, map, refl, sym, ap, subst, inl, inr, arith, eqb, eqb-true, eq-eqb}
use Rattle.std.specs.Prelude.{Contains}
use Rattle.std.specs.List.{AllByRecursion as Each, range_with_len}
use Rattle.std.proofs.lemmas.List.Elements.{All-contains_itself, Contains-append_left, Contains-append_right, recursion_from_All}
use Rattle.std.proofs.lemmas.List.Sorted.{Contains-permutation}
use Rattle.event_key.specs.declared.key.Key.{Key}
use Rattle.model_core.specs.declared.event.Event.{Event}
use Rattle.model_core.specs.declared.note.Note.{Note}
use Rattle.model_core.specs.Meaning.{Meaning}
use Rattle.sim_spec.specs.declared.terms.Terms.{Terms}
use Rattle.sim_spec.specs.State.{State, initial_state, start_event}
use Rattle.sim_spec.specs.Run.{does, next}
use Rattle.key_order.specs.Pending.{enqueue_all}
use Rattle.key_order.proofs.ArrivalLemmas.{enqueue_all-permutation}
use Rattle.key_order.proofs.EachLemmas.{Each-map, Each-both}
use Rattle.key_order.proofs.EnqueueLemmas.{Each-enqueue_all}
use Rattle.key_order.proofs.MemberLemmas.{first-or-later, is-first, is-later}
use Rattle.sim_spec.proofs.StampLemmas.{fire-later}
use Rattle.run_laws.specs.Reached.{after_events}
use Rattle.run_laws.specs.RunLaws.{Happens, IsCause, IsInitial, EachHasACause, IsKnown, NothingIsForgotten}
use Rattle.run_laws.specs.Sent.{sent_next}
use Rattle.run_laws.proofs.Induction.{after_events-does, after_events-stops, each_number}
use Rattle.run_laws.proofs.OrderLaw.{step_keeps}
use Rattle.run_laws.proofs.Steps.{IsStep, is_step, step_fires, sent_next-step, first_firing}

-- an initial event, or one with a cause among the first n
IsCaused : Meaning → Terms → ℕ → Event → Type 0
IsCaused m t n e = IsInitial m e ⊎ ((k : ℕ) × (k < n) × IsCause m t k e)

caused_later : (m : Meaning) (t : Terms) (n : ℕ) (e : Event) → IsCaused m t n e → IsCaused m t (suc n) e
unfolding IsCaused
caused_later m t n e (inl first) = inl first
caused_later m t n e (inr cause) = inr (cause.0, (let lt : cause.0 < n = cause.1 in omega arith), cause.2)

starts_caused : (m : Meaning) (t : Terms) (a n : ℕ) → a + n ≤ m.starts → Each (IsCaused m t 0) (map (start_event m) (range_with_len a n))
unfolding IsCaused
starts_caused m t a zero room = tt
starts_caused m t a (suc n) room = (inl (a, (omega arith), refl), starts_caused m t (a + 1) n (omega arith))

-- the event of a step happens
step_happens : (m : Meaning) (t : Terms) (n : ℕ) (told : Key × Note) (after : State) → next m t (after_events n m t) ≡ does told after
    → (step : IsStep m t (after_events n m t) told after) → Happens m t n step.event
step_happens m t n told after is_next step = record { rest = step.rest; told = told; after = after; pending = step.pending; goes = is_next }

all_caused : (m : Meaning) (t : Terms) (n : ℕ) → Each (IsCaused m t n) (after_events n m t).pending
unfolding after_events initial_state IsCaused
all_caused m t =
    each_number m t (λ n. Each (IsCaused m t n) (after_events n m t).pending)
    (Each-enqueue_all (IsCaused m t 0) (map (start_event m) (range_with_len 0 m.starts)) [] (starts_caused m t 0 m.starts (omega arith)) tt)
    (λ n stop is_next before.
    let S : State → Type 0 = λ s. Each (IsCaused m t (suc n)) s.pending in
    subst S (sym (after_events-stops m t n stop is_next)) (Each-map (IsCaused m t n) (IsCaused m t (suc n)) _ (caused_later m t n) before))
    (λ n told after is_next before.
    let s : State = after_events n m t in
    let step : IsStep m t s told after = is_step m t s told after is_next in
    let sent : List Event = (first_firing s step.event step.effect).events in
    let S : State → Type 0 = λ s. Each (IsCaused m t (suc n)) s.pending in
    let L : List Event → Type 0 = Each (IsCaused m t n) in
    let all : Each (IsCaused m t n) (step.event ∷ step.rest) = subst L step.pending before in
    let own : Each (λ (e : Event). Contains sent e) sent = recursion_from_All (λ (e : Event). Contains sent e) sent (All-contains_itself sent) in
    let later : Each (λ (e : Event). suc step.event.key.stamp ≤ e.key.stamp) sent =
    fire-later m step.event.key.dest _ step.event (first_firing s step.event step.effect) (step_fires m t s told after step) in
    let caused : (e : Event) → Contains sent e → suc step.event.key.stamp ≤ e.key.stamp → IsCaused m t (suc n) e =
    λ e is_in late. inr (
      n,
      (omega arith),
      record {
        cause = step.event;
        happens = step_happens m t n told after is_next step;
        sent = (let D : List Event → Type 0 = λ events. Contains events e in subst D (sym (sent_next-step m t s told after step)) is_in);
        earlier = late;
      },
    ) in
    subst S (sym (after_events-does m t n told after is_next))
    (step_keeps m t s told after (IsCaused m t (suc n)) step
    (Each-both (λ (e : Event). Contains sent e) (λ (e : Event). suc step.event.key.stamp ≤ e.key.stamp) (IsCaused m t (suc n)) sent caused own later)
    (Each-map (IsCaused m t n) (IsCaused m t (suc n)) step.rest (caused_later m t n) all.1)))

pub causality_law : (m : Meaning) (t : Terms) → EachHasACause m t
unfolding IsCaused
causality_law m t n e happens =
    let L : List Event → Type 0 = Each (IsCaused m t n) in
    let all : Each (IsCaused m t n) (e ∷ happens.rest) = subst L happens.pending (all_caused m t n) in
    all.0

-- what comes to its place among the pending events is one of them, and so is each that was there
pub sent-in : (m : Meaning) (t : Terms) (s : State) (told : Key × Note) (after : State) (e : Event) (step : IsStep m t s told after) → Contains (sent_next m s) e
    → Contains after.pending e
sent-in m t s told after e step is_in =
    let sent : List Event = (first_firing s step.event step.effect).events in
    let D : List Event → Type 0 = λ events. Contains events e in
    let S : State → Type 0 = λ s. Contains s.pending e in
    subst S (sym step.leaves)
    (Contains-permutation (sent ++ step.rest) (enqueue_all sent step.rest) e (enqueue_all-permutation sent step.rest)
    (Contains-append_left sent step.rest e (subst D (sent_next-step m t s told after step) is_in)))

pub rest-in : (m : Meaning) (t : Terms) (s : State) (told : Key × Note) (after : State) (e : Event) (step : IsStep m t s told after) → Contains step.rest e
    → Contains after.pending e
rest-in m t s told after e step is_in =
    let sent : List Event = (first_firing s step.event step.effect).events in
    let S : State → Type 0 = λ s. Contains s.pending e in
    subst S (sym step.leaves)
    (Contains-permutation (sent ++ step.rest) (enqueue_all sent step.rest) e (enqueue_all-permutation sent step.rest)
    (Contains-append_right sent step.rest e is_in))

-- a pending event happens next, or is pending still
pending_on : (m : Meaning) (t : Terms) (n : ℕ) (told : Key × Note) (after : State) (e : Event) → next m t (after_events n m t) ≡ does told after
    → Contains (after_events n m t).pending e → Happens m t n e ⊎ Contains after.pending e
pending_on m t n told after e is_next is_in =
    let s : State = after_events n m t in
    let step : IsStep m t s told after = is_step m t s told after is_next in
    let D : List Event → Type 0 = λ events. Contains events e in
    let H : Event → Type 0 = Happens m t n in
    elim (first-or-later e step.event step.rest (subst D step.pending is_in)) [
      | inl same ↦ inl (subst H same (step_happens m t n told after is_next step))
      | inr later ↦ inr (rest-in m t s told after e step later)
    ]

known_on : (m : Meaning) (t : Terms) (k n : ℕ) (told : Key × Note) (after : State) (e : Event) → next m t (after_events n m t) ≡ does told after → k ≤ n
    → IsKnown m t k n e → IsKnown m t k (suc n) e
known_on m t k n told after e is_next upto (inr there) =
    inr (there.0, there.1, (let lt : there.0 < n = there.2 in omega arith), there.3)
known_on m t k n told after e is_next upto (inl is_in) =
    elim (pending_on m t n told after e is_next is_in) [
      | inl now ↦ inr (n, upto, (omega arith), now)
      | inr still ↦ (let S : State → Type 0 = λ s. Contains s.pending e in inl (subst S (sym (after_events-does m t n told after is_next)) still))
    ]

known_halted : (m : Meaning) (t : Terms) (k n : ℕ) (e : Event) → after_events (suc n) m t ≡ after_events n m t → IsKnown m t k n e → IsKnown m t k (suc n) e
known_halted m t k n e stays (inr there) = inr (there.0, there.1, (let lt : there.0 < n = there.2 in omega arith), there.3)
known_halted m t k n e stays (inl is_in) = let S : State → Type 0 = λ s. Contains s.pending e in inl (subst S (sym stays) is_in)

-- an event that is pending after k events is known after any number from k on
known_from : (m : Meaning) (t : Terms) (k : ℕ) (e : Event) → Contains (after_events k m t).pending e → (n : ℕ) → k ≤ n → IsKnown m t k n e
known_from m t k e is_in =
    each_number m t (λ n. k ≤ n → IsKnown m t k n e)
    (λ upto. let none : k ≡ 0 = omega arith in inl (at 0 none))
    (λ n stop is_next before upto. by n upto (λ before_it. known_halted m t k n e (after_events-stops m t n stop is_next) (before before_it)) (eqb k (suc n)) refl)
    (λ n told after is_next before upto. by n upto (λ before_it. known_on m t k n told after e is_next before_it (before before_it)) (eqb k (suc n)) refl)
  where
    at : (n : ℕ) → k ≡ n → Contains (after_events n m t).pending e
    at n same = let P : ℕ → Type 0 = λ n. Contains (after_events n m t).pending e in subst P same is_in

    by : (n : ℕ) → k ≤ suc n → (k ≤ n → IsKnown m t k (suc n) e) → (begins : Bool) → eqb k (suc n) ≡ begins → IsKnown m t k (suc n) e
    by n upto more true is = inl (at (suc n) (eqb-true k (suc n) is))
    by n upto more false is = more (before_it (λ same. let yes = eq-eqb k (suc n) same in cc))
      where
        before_it : (k ≡ suc n → ⊥) → k ≤ n
        before_it apart = omega arith

starts-contain : (m : Meaning) (a n i : ℕ) → a ≤ i → i < a + n → Contains (map (start_event m) (range_with_len a n)) (start_event m i)
starts-contain m a zero i from upto = absurd (omega arith)
starts-contain m a (suc n) i from upto =
    by (eqb a i) refl (λ past. starts-contain m (a + 1) n i past (omega arith))
  where
    by : (here : Bool) → eqb a i ≡ here → (a + 1 ≤ i → Contains (map (start_event m) (range_with_len (a + 1) n)) (start_event m i))
        → Contains (start_event m a ∷ map (start_event m) (range_with_len (a + 1) n)) (start_event m i)
    by true is later = is-first (start_event m i) (start_event m a) _ (ap (start_event m) (eqb-true a i is))
    by false is later =
        let apart : (a ≡ i → ⊥) = λ same. let yes = eq-eqb a i same in cc in
        is-later (start_event m i) (start_event m a) _ (later (omega arith))

pub initial-in : (m : Meaning) (t : Terms) (e : Event) → IsInitial m e → Contains (after_events 0 m t).pending e
unfolding after_events initial_state
initial-in m t e initial =
    let starts : List Event = map (start_event m) (range_with_len 0 m.starts) in
    let below : initial.0 < m.starts = initial.1 in
    let C : Event → Type 0 = λ e. Contains (enqueue_all starts []) e in
    subst C (sym initial.2)
    (Contains-permutation (starts ++ []) (enqueue_all starts []) (start_event m initial.0) (enqueue_all-permutation starts [])
    (Contains-append_left starts [] (start_event m initial.0) (starts-contain m 0 m.starts initial.0 (omega arith) (omega arith))))

pub nothing_is_forgotten : (m : Meaning) (t : Terms) → NothingIsForgotten m t
nothing_is_forgotten m t = record {
  initial = λ n e is. known_from m t 0 e (initial-in m t e is) n (omega arith);
  sent = λ k n e below cause.
      let h : Happens m t k cause.cause = cause.happens in
      let S : State → Type 0 = λ s. Contains s.pending e in
      let there : Contains (after_events (suc k) m t).pending e =
      subst S (sym (after_events-does m t k h.told h.after h.goes))
      (sent-in m t (after_events k m t) h.told h.after e (is_step m t (after_events k m t) h.told h.after h.goes) cause.sent) in
      known_from m t (suc k) e there n (omega arith);
}
