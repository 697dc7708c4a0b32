-- What a gate sends: an event for each pin that it feeds.
use Rattle.std.proofs.Common.{◌≡◌, ◌⊎◌, ℕ, zero, suc, ◌+◌, ◌<◌, ◌≤◌, Bool, true, false, List, [], ◌∷◌, ◌++◌, length, map, refl, sym, ap, subst, inl, inr, arith}
use Rattle.std.specs.Prelude.{◌==◌, Contains}
use Rattle.std.specs.List.{AllByRecursion as Each}
use Rattle.std.proofs.lemmas.Bool.Decides.{nat_tests}
use Rattle.std.proofs.lemmas.List.Elements.{Contains-append_left, Contains-append_right}
use Rattle.std.proofs.lemmas.List.FromFn.{length-map-range_with_len, get_or-map-range_with_len}
use Rattle.key_order.proofs.FilterLemmas.{filter-passes}
use Rattle.key_order.proofs.EachLemmas.{Each-map}
use Rattle.key_order.proofs.MemberLemmas.{contains-filter, first-or-later, is-first, is-later, none-in}
use Rattle.model_core.specs.declared.event.Event.{Event}
use Rattle.sim_spec.specs.Firing.{emission, emissions}
use Rattle.circuit_model.specs.declared.gate.LogicGate.{LogicGate}
use Rattle.circuit_model.specs.declared.wiring.Pin.{Pin}
use Rattle.circuit_model.specs.Events.{level_to}
use Rattle.circuit_model.specs.Gates.{gate_at}
use Rattle.circuit_model.specs.Wiring.{pin, pins_of, pins_below, all_pins, feeder, fed_among, fed_by}
use Rattle.circuit_model.specs.Wired.{pins_below-more}

-- the event that brings an output to a pin
abbrev pub level_event : ℕ → ℕ → ℕ → ℕ → ℕ → Pin → Event
level_event stamp number serial delay output p = emission stamp number serial (level_to delay output p)

-- the events that bring an output to pins
abbrev pub level_events : ℕ → ℕ → ℕ → ℕ → ℕ → List Pin → List Event
level_events stamp number serial delay output pins = emissions stamp number serial (map (level_to delay output) pins)

-- what holds of what is sent to each pin, whatever its serial
pub Each-level_events : (P : Event → Type 0) (Q : Pin → Type 0) (stamp number first serial delay output : ℕ) (pins : List Pin) → first ≤ serial
    → ((p : Pin) (k : ℕ) → first ≤ k → Q p → P (level_event stamp number k delay output p)) → Each Q pins → Each P (level_events stamp number serial delay output pins)
unfolding emissions
Each-level_events P Q stamp number first serial delay output [] from holds all = tt
Each-level_events P Q stamp number first serial delay output (p ∷ pins) from holds all =
    (holds p serial from all.0, Each-level_events P Q stamp number first (serial + 1) delay output pins (omega arith) holds all.1)

-- each of the pins is sent its event
pub level_events-contain : (stamp number serial delay output : ℕ) (p : Pin) (pins : List Pin) → Contains pins p
    → (k : ℕ) × (serial ≤ k) × Contains (level_events stamp number serial delay output pins) (level_event stamp number k delay output p)
unfolding emissions
level_events-contain stamp number serial delay output p [] is_in = none-in p is_in
level_events-contain stamp number serial delay output p (q ∷ pins) is_in =
    by (first-or-later p q pins is_in) (λ there. level_events-contain stamp number (serial + 1) delay output p pins there)
  where
    rest : List Event
    rest = level_events stamp number (serial + 1) delay output pins

    by : (q ≡ p) ⊎ Contains pins p
        → (Contains pins p → (k : ℕ) × (serial + 1 ≤ k) × Contains (level_events stamp number (serial + 1) delay output pins) (level_event stamp number k delay output p))
        → (k : ℕ) × (serial ≤ k) × Contains (level_event stamp number serial delay output q ∷ level_events stamp number (serial + 1) delay output pins) (level_event stamp number k delay output p)
    by (inl same) more =
        (serial, (omega arith), is-first (level_event stamp number serial delay output p) _ rest (ap (level_event stamp number serial delay output) same))
    by (inr there) more =
        let found = more there in
        (found.0, (let late : serial + 1 ≤ found.0 = found.1 in omega arith), is-later (level_event stamp number found.0 delay output p) _ rest found.2)

pins_below-contain : (gates : List LogicGate) (count number place : ℕ) → number < count → place < length (gate_at gates number).from
    → Contains (pins_below gates count) (pin number place)
pins_below-contain gates zero number place exists within = absurd (omega arith)
pins_below-contain gates (suc count) number place exists within =
    let next : count + 1 ≡ suc count = omega arith in
    subst (λ n. Contains (pins_below gates n) (pin number place)) next
    (subst (λ pins. Contains pins (pin number place)) (sym (pins_below-more gates count)) (by (number == count) refl (λ lt. pins_below-contain gates count number place lt within)))
  where
    by : (same : Bool) → (number == count) ≡ same → (number < count → Contains (pins_below gates count) (pin number place))
        → Contains (pins_below gates count ++ pins_of gates count) (pin number place)
    by false is more =
        let lt : number < count = grind (arith, nat_tests) in
        Contains-append_left (pins_below gates count) (pins_of gates count) (pin number place) (more lt)
    by true is more =
        let same : number ≡ count = grind (arith, nat_tests) in
        let all : length (pins_of gates number) ≡ length (gate_at gates number).from = length-map-range_with_len (pin number) 0 (length (gate_at gates number).from) in
        let here : Contains (pins_of gates number) (pin number place) = (
          place,
          (omega arith),
          get_or-map-range_with_len (pin number) 0 (length (gate_at gates number).from) place place (pin number place) within (omega arith),
        ) in
        Contains-append_right (pins_below gates count) (pins_of gates count) (pin number place) (subst (λ n. Contains (pins_of gates n) (pin number place)) same here)

-- a pin is one of those that its gate feeds
pub fed_by-contains : (gates : List LogicGate) (number place source : ℕ) → number < length gates → place < length (gate_at gates number).from
    → feeder gates (pin number place) ≡ source → Contains (fed_by gates source) (pin number place)
unfolding fed_among
fed_by-contains gates number place source exists within fed =
    let passes : (feeder gates (pin number place) == source) ≡ true = grind (arith, nat_tests) in
    contains-filter (λ p. feeder gates p == source) (pin number place) (all_pins gates) passes (pins_below-contain gates (length gates) number place exists within)

-- and a gate feeds no other
pub fed_by-feeds : (gates : List LogicGate) (source : ℕ) → Each (λ (p : Pin). feeder gates p ≡ source) (fed_by gates source)
unfolding fed_among
fed_by-feeds gates source =
    Each-map (λ p. (feeder gates p == source) ≡ true) (λ p. feeder gates p ≡ source) (fed_by gates source) (λ p is. grind (arith, nat_tests))
    (filter-passes (λ p. feeder gates p == source) (all_pins gates))
