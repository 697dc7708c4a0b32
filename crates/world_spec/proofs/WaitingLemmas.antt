-- A node for a share, with each object as far ahead as it is to be.
use Rattle.std.proofs.Common.{◌≡◌, ℕ, zero, suc, ◌-◌, Bool, true, false, cond, List, [], ◌∷◌, drop, refl, sym, ap, ◌∙◌, arith, eqb, eqb-true, eq-eqb, ne_eqb}
use Rattle.std.proofs.lemmas.Bool.{eqb-false}
use Rattle.std.specs.Prelude.{IsTrue}
use Rattle.std.specs.List.{AllByRecursion as Each}
use Rattle.event_key.specs.Keys.{key_lt}
use Rattle.model_core.specs.declared.event.Event.{Event}
use Rattle.model_core.specs.Meaning.{Meaning}
use Rattle.sim_spec.specs.declared.terms.Terms.{Terms}
use Rattle.key_order.specs.Ascending.{IsAscending, Ascends}
use Rattle.sim_spec.specs.Replay.{events_at}
use Rattle.world_spec.specs.Share.{Share, IsHome, IsAtHome, IsAhead, NodeData, StandsFor, log_of}

-- one less at this object
abbrev lowered : (ℕ → ℕ) → ℕ → ℕ → ℕ
lowered ahead dest object = cond (eqb object dest) (ahead object - 1) (ahead object)

-- the events that wait where each object has processed so many of its own
unfoldable pub waiting_events : (ℕ → ℕ) → List Event → List Event
waiting_events ahead [] = []
waiting_events ahead (e ∷ es) = cond (eqb (ahead e.key.dest) 0) (e ∷ waiting_events ahead es) (waiting_events (lowered ahead e.key.dest) es)

pub waiting_events-at : (ahead : ℕ → ℕ) (es : List Event) (object : ℕ) → events_at object (waiting_events ahead es) ≡ drop (ahead object) (events_at object es)
unfolding events_at waiting_events
waiting_events-at ahead [] object = none (ahead object)
  where
    none : (n : ℕ) → [] ≡ drop {A = Event} n []
    none zero = refl
    none (suc n) = refl
waiting_events-at ahead (e ∷ es) object =
    by_tests (waiting_events-at ahead es object) (waiting_events-at (lowered ahead e.key.dest) es object) (eqb (ahead e.key.dest) 0) (eqb e.key.dest object) refl refl
  where
    at : List Event
    at = events_at object es

    here : (n : ℕ) → n ≡ 0 → drop n at ≡ at
    here zero is = refl
    here (suc n) is = absurd (omega arith)

    whole : (n : ℕ) → n ≡ 0 → drop n (e ∷ at) ≡ e ∷ at
    whole zero is = refl
    whole (suc n) is = absurd (omega arith)

    one_less : (n : ℕ) → (n ≡ 0 → ⊥) → drop n (e ∷ at) ≡ drop (n - 1) at
    one_less zero some = absurd (some refl)
    one_less (suc n) some = let same : n ≡ suc n - 1 = omega arith in ap (λ k. drop k at) same

    by_tests : events_at object (waiting_events ahead es) ≡ drop (ahead object) at → events_at object (waiting_events (lowered ahead e.key.dest) es) ≡ drop (lowered ahead e.key.dest object) at
        → (a b : Bool) → eqb (ahead e.key.dest) 0 ≡ a → eqb e.key.dest object ≡ b
        → events_at object (cond a (e ∷ waiting_events ahead es) (waiting_events (lowered ahead e.key.dest) es)) ≡ drop (ahead object) (cond b (e ∷ at) at)
    by_tests more fewer true b is_a is_b =
        ap (λ c. cond c (e ∷ events_at object (waiting_events ahead es)) (events_at object (waiting_events ahead es))) is_b
        ∙ ap (λ xs. cond b (e ∷ xs) xs) more
        ∙ by_dest b is_b
      where
        by_dest : (b : Bool) → eqb e.key.dest object ≡ b → cond b (e ∷ drop (ahead object) at) (drop (ahead object) at) ≡ drop (ahead object) (cond b (e ∷ at) at)
        by_dest true is_b =
            let none : ahead object ≡ 0 = ap ahead (sym (eqb-true e.key.dest object is_b)) ∙ eqb-true (ahead e.key.dest) 0 is_a in
            ap (λ xs. e ∷ xs) (here (ahead object) none) ∙ sym (whole (ahead object) none)
        by_dest false is_b = refl
    by_tests more fewer false true is_a is_b =
        let same : object ≡ e.key.dest = sym (eqb-true e.key.dest object is_b) in
        let some : ahead object ≡ 0 → ⊥ = λ none. eqb-false (ahead e.key.dest) 0 is_a (ap ahead (sym same) ∙ none) in
        fewer
        ∙ ap (λ b. drop (cond b (ahead object - 1) (ahead object)) at) (eq-eqb object e.key.dest same)
        ∙ sym (one_less (ahead object) some)
    by_tests more fewer false false is_a is_b =
        let apart : object ≡ e.key.dest → ⊥ = λ same. eqb-false e.key.dest object is_b (sym same) in
        fewer
        ∙ ap (λ b. drop (cond b (ahead object - 1) (ahead object)) at) (ne_eqb object e.key.dest apart)

pub waiting_events-each : (P : Event → Type 0) (ahead : ℕ → ℕ) (es : List Event) → Each P es → Each P (waiting_events ahead es)
unfolding waiting_events
waiting_events-each P ahead [] all = tt
waiting_events-each P ahead (e ∷ es) all =
    elim (eqb (ahead e.key.dest) 0) as (λ b. Each P (cond b (e ∷ waiting_events ahead es) (waiting_events (lowered ahead e.key.dest) es)))
    [ true ↦ (all.0, waiting_events-each P ahead es all.1) | false ↦ waiting_events-each P (lowered ahead e.key.dest) es all.1 ]

pub waiting_events-ascending : (ahead : ℕ → ℕ) (es : List Event) → IsAscending es → IsAscending (waiting_events ahead es)
unfolding waiting_events Ascends
waiting_events-ascending ahead [] up = tt
waiting_events-ascending ahead (e ∷ es) up =
    elim (eqb (ahead e.key.dest) 0) as (λ b. IsAscending (cond b (e ∷ waiting_events ahead es) (waiting_events (lowered ahead e.key.dest) es))) [
      | true ↦ (
        (waiting_events-each (λ (x : Event). key_lt e.key x.key ≡ true) ahead es up.0),
        waiting_events-ascending ahead es up.1,
      )
      | false ↦ waiting_events-ascending (lowered ahead e.key.dest) es up.1
    ]

-- a node for this share, so far ahead
abbrev pub node_with : Meaning → Share → (ℕ → ℕ) → NodeData
node_with m share ahead = record { log = λ object. log_of m share object (ahead object); unprocessed = waiting_events ahead share.pending }

pub node_with-stands : (m : Meaning) (t : Terms) (home : ℕ → ℕ) (node : ℕ) (share : Share) (ahead : ℕ → ℕ)
    → IsAscending share.pending → Each (IsAtHome m home node) share.pending → ((object : ℕ) → IsHome m home node object → IsTrue (m.lawful object (share.states object).cells))
    → ((object : ℕ) → IsHome m home node object → IsAhead m t share object (ahead object)) → StandsFor m t home node share ahead (node_with m share ahead)
node_with-stands m t home node share ahead up homed cells early = record {
  ordered = up;
  homed = homed;
  cells = cells;
  early = early;
  logs = λ object at. refl;
  waiting_ordered = waiting_events-ascending ahead share.pending up;
  waiting_homed = waiting_events-each (IsAtHome m home node) ahead share.pending homed;
  waiting = λ object at. waiting_events-at ahead share.pending object;
}
