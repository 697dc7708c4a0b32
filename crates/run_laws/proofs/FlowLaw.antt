-- Events are neither lost nor doubled.
use Rattle.std.proofs.Common.{◌≡◌, suc, List, [], ◌∷◌, ◌++◌, refl, sym, ap, ◌∙◌, subst, append_assoc, append-nil}
use Rattle.std.specs.Prelude.{IsPermutation}
use Rattle.std.proofs.lemmas.List.Sorted.{IsPermutation-append_left, IsPermutation-append_right, IsPermutation-append_comm, IsPermutation-sym, IsPermutation-trans}
use Rattle.model_core.specs.declared.event.Event.{Event}
use Rattle.model_core.specs.Meaning.{Meaning}
use Rattle.key_order.specs.Pending.{enqueue_all}
use Rattle.key_order.proofs.ArrivalLemmas.{enqueue_all-permutation}
use Rattle.sim_spec.specs.declared.terms.Terms.{Terms}
use Rattle.sim_spec.specs.State.{State, initial_state}
use Rattle.sim_spec.specs.Run.{stops, does}
use Rattle.run_laws.specs.Reached.{after_events, gathered}
use Rattle.run_laws.specs.RunLaws.{EventsBalance}
use Rattle.run_laws.specs.Sent.{first_of, event_next, sends_next, happened, all_sent, initial_events}
use Rattle.run_laws.proofs.Induction.{after_events-does, after_events-stops, gathered-more, each_number}
use Rattle.run_laws.proofs.Steps.{IsStep, is_step, sent_next-step, first_firing}

-- one event moves to those that happened, and what it sends to those that are pending
moved_on : (done one sent rest began before : List Event) → IsPermutation (done ++ (one ++ rest)) (began ++ before)
    → IsPermutation ((done ++ one) ++ enqueue_all sent rest) (began ++ (before ++ sent))
moved_on done one sent rest began before balance =
    let first : List Event = (done ++ one) ++ enqueue_all sent rest in
    let placed : IsPermutation (sent ++ rest) (enqueue_all sent rest) = enqueue_all-permutation sent rest in
    let back : IsPermutation first ((done ++ one) ++ (sent ++ rest)) =
    IsPermutation-append_right (done ++ one) (enqueue_all sent rest) (sent ++ rest) (IsPermutation-sym (sent ++ rest) (enqueue_all sent rest) placed) in
    let turned : IsPermutation ((done ++ one) ++ (sent ++ rest)) ((done ++ one) ++ (rest ++ sent)) =
    IsPermutation-append_right (done ++ one) (sent ++ rest) (rest ++ sent) (IsPermutation-append_comm sent rest) in
    let same : (done ++ one) ++ (rest ++ sent) ≡ (done ++ (one ++ rest)) ++ sent =
    sym (append_assoc (done ++ one) rest sent) ∙ ap (λ (xs : List Event). xs ++ sent) (append_assoc done one rest) in
    let P : List Event → Type 0 = λ xs. IsPermutation first xs in
    let Q : List Event → Type 0 = λ xs. IsPermutation ((done ++ (one ++ rest)) ++ sent) xs in
    IsPermutation-trans first ((done ++ (one ++ rest)) ++ sent) (began ++ (before ++ sent))
    (subst P same (IsPermutation-trans first ((done ++ one) ++ (sent ++ rest)) ((done ++ one) ++ (rest ++ sent)) back turned))
    (subst Q (append_assoc began before sent) (IsPermutation-append_left sent (done ++ (one ++ rest)) (began ++ before) balance))

pub events_balance : (m : Meaning) (t : Terms) → EventsBalance m t
unfolding gathered after_events initial_state
events_balance m t =
    each_number m t (λ n. IsPermutation (happened n m t ++ (after_events n m t).pending) (initial_events m ++ all_sent n m t))
    (let starts : List Event = initial_events m in
    let P : List Event → Type 0 = λ xs. IsPermutation (enqueue_all starts []) xs in
    subst P refl (IsPermutation-sym (starts ++ []) (enqueue_all starts []) (enqueue_all-permutation starts [])))
    (λ n stop is_next before.
    let done : happened (suc n) m t ≡ happened n m t = gathered-more event_next m t n (stops stop) is_next ∙ append-nil (happened n m t) in
    let sent : all_sent (suc n) m t ≡ all_sent n m t = gathered-more (sends_next m) m t n (stops stop) is_next ∙ append-nil (all_sent n m t) in
    let D : List Event → Type 0 = λ done. IsPermutation (done ++ (after_events (suc n) m t).pending) (initial_events m ++ all_sent (suc n) m t) in
    let S : List Event → Type 0 = λ sent. IsPermutation (happened n m t ++ (after_events (suc n) m t).pending) (initial_events m ++ sent) in
    let A : State → Type 0 = λ s. IsPermutation (happened n m t ++ s.pending) (initial_events m ++ all_sent n m t) in
    subst D (sym done) (subst S (sym sent) (subst A (sym (after_events-stops m t n stop is_next)) before)))
    (λ n told after is_next before.
    let s : State = after_events n m t in
    let step : IsStep m t s told after = is_step m t s told after is_next in
    let events : List Event = (first_firing s step.event step.effect).events in
    let done : happened (suc n) m t ≡ happened n m t ++ step.event ∷ [] =
    gathered-more event_next m t n (does told after) is_next ∙ ap (λ (es : List Event). happened n m t ++ first_of es) step.pending in
    let sent : all_sent (suc n) m t ≡ all_sent n m t ++ events =
    gathered-more (sends_next m) m t n (does told after) is_next ∙ ap (λ (es : List Event). all_sent n m t ++ es) (sent_next-step m t s told after step) in
    let D : List Event → Type 0 = λ done. IsPermutation (done ++ (after_events (suc n) m t).pending) (initial_events m ++ all_sent (suc n) m t) in
    let S : List Event → Type 0 = λ sent. IsPermutation ((happened n m t ++ step.event ∷ []) ++ (after_events (suc n) m t).pending) (initial_events m ++ sent) in
    let A : State → Type 0 = λ s. IsPermutation ((happened n m t ++ step.event ∷ []) ++ s.pending) (initial_events m ++ (all_sent n m t ++ events)) in
    let B : List Event → Type 0 = λ pending. IsPermutation (happened n m t ++ pending) (initial_events m ++ all_sent n m t) in
    subst D (sym done) (subst S (sym sent) (subst A (sym (after_events-does m t n told after is_next ∙ step.leaves))
    (moved_on (happened n m t) (step.event ∷ []) events step.rest (initial_events m) (all_sent n m t) (subst B step.pending before)))))
