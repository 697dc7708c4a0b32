-- Each reached state is lawful, and the whole run is its events.
use Rattle.std.proofs.Common.{◌≡◌, ℕ, suc, List, [], ◌∷◌, ◌++◌, sym, ap, ◌∙◌, subst, append_assoc, append-nil, arith}
use Rattle.event_key.specs.declared.key.Key.{Key}
use Rattle.model_core.specs.declared.note.Note.{Note}
use Rattle.model_core.specs.Meaning.{Meaning, MeaningLaws}
use Rattle.sim_spec.specs.declared.terms.Terms.{Terms}
use Rattle.sim_spec.specs.State.{State, Lawful, initial_state}
use Rattle.sim_spec.specs.Run.{does, run, Leads}
use Rattle.sim_spec.proofs.InitialLemmas.{initial_state-lawful}
use Rattle.sim_spec.proofs.LawfulLemmas.{next-lawful}
use Rattle.sim_spec.proofs.RunEndsLemma.{run-ends}
use Rattle.run_laws.specs.Reached.{after_events, Reaches, gathered, record_of, first_records}
use Rattle.run_laws.specs.RunLaws.{RunIsReached}
use Rattle.run_laws.proofs.Induction.{after_events-does, gathered-more, each_reached}

pub reached-lawful : (m : Meaning) (t : Terms) (s : State) → MeaningLaws m → Reaches m t s → Lawful m t s
reached-lawful m t s laws reached =
    each_reached m t (Lawful m t) (initial_state-lawful m t laws)
    (λ s told after here is_next lawful. next-lawful m t s told after laws lawful is_next) s reached

record IsThere (m : Meaning) (t : Terms) (last : State) (records : List (Key × Note)) (n : ℕ) : Type 0 where
  pub state : after_events n m t ≡ last
  pub told : first_records n m t ≡ records

-- events that lead on from the state after n events are the next ones
led : (m : Meaning) (t : Terms) (records : List (Key × Note)) (n : ℕ) (last : State) → Leads m t (after_events n m t) records last
    → (k : ℕ) × IsThere m t last (first_records n m t ++ records) k
unfolding Leads
led m t [] n last leads = (n, record { state = leads; told = sym (append-nil (first_records n m t)) })
led m t (told ∷ records) n last leads =
    let mid : State = leads.0 in
    let P : State → Type 0 = λ s. Leads m t s records last in
    let on : Leads m t (after_events (suc n) m t) records last = subst P (sym (after_events-does m t n told mid leads.1)) leads.2 in
    let more : (k : ℕ) × IsThere m t last (first_records (suc n) m t ++ records) k = led m t records (suc n) last on in
    let one : first_records (suc n) m t ≡ first_records n m t ++ told ∷ [] = gathered-more record_of m t n (does told mid) leads.1 in (
      more.0,
      record {
        state = more.1.state;
        told = more.1.told ∙ ap (λ (xs : List (Key × Note)). xs ++ records) one ∙ append_assoc (first_records n m t) (told ∷ []) records;
      },
    )

pub run_is_reached : (m : Meaning) (t : Terms) → RunIsReached m t
unfolding after_events gathered initial_state
run_is_reached m t =
    let there = led m t (run m t (initial_state m)).records 0 (run m t (initial_state m)).last (run-ends m t (initial_state m) (omega arith)).leads in
    (there.0, record { last = there.1.state; records = there.1.told })
