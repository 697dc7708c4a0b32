-- Where nothing is pending a circuit has settled.
use Rattle.std.proofs.Common.{◌≡◌, ℕ, false, List, [], sym, ap, ◌∙◌, subst, inl, inr}
use Rattle.std.specs.Prelude.{Contains}
use Rattle.std.specs.List.{AllByRecursion as Each}
use Rattle.std.proofs.lemmas.List.Elements.{recursion_from_All}
use Rattle.model_core.specs.declared.event.Event.{Event}
use Rattle.key_order.proofs.MemberLemmas.{none-in}
use Rattle.sim_spec.specs.declared.terms.Terms.{Terms}
use Rattle.sim_spec.specs.State.{State}
use Rattle.circuit_model.specs.declared.gate.LogicGate.{LogicGate}
use Rattle.circuit_model.specs.Meaning.{circuit_meaning}
use Rattle.circuit_model.specs.Parts.{IsCircuit}
use Rattle.run_laws.specs.Reached.{Reaches}
use Rattle.run_laws.proofs.Induction.{each_reached}
use Rattle.subject_laws.specs.Settled.{level_at, IsSettled, is_for, arriving, IsSettling, SettlingLaw, StillPinsLaw, SettledLaw}
use Rattle.subject_laws.proofs.CircuitLemmas.Arriving.{arriving-none, arriving-others}
use Rattle.subject_laws.proofs.CircuitLemmas.CircuitSteps.{IsCircuitStep, circuit_step}
use Rattle.subject_laws.proofs.CircuitLemmas.Pins.{pins-kept}
use Rattle.subject_laws.proofs.CircuitLemmas.Starting.{first_timely, first_pins, first_values}
use Rattle.subject_laws.proofs.CircuitLemmas.Timely.{IsTimely, timely-kept}
use Rattle.subject_laws.proofs.CircuitLemmas.Values.{values-kept}

-- besides, what is pending is timely: no level overtakes one that was sent before
record SettlesInTime (gates : List LogicGate) (s : State) : Type 0 where
  now : ℕ
  timely : Each (IsTimely gates now) s.pending
  settles : IsSettling gates s

settles_in_time : (gates : List LogicGate) (t : Terms) → IsCircuit gates → (s : State) → Reaches (circuit_meaning gates) t s → SettlesInTime gates s
settles_in_time gates t fine =
    each_reached (circuit_meaning gates) t (SettlesInTime gates)
    (record {
      now = 0;
      timely = first_timely gates;
      settles = record { pins = λ number place exists within. first_pins gates number place fine exists within; values = first_values gates };
    })
    (λ s told after reached is_next before.
    let n : IsCircuitStep gates t s told after = circuit_step gates t s told after fine reached is_next in
    record {
      now = n.step.event.key.stamp;
      timely = timely-kept gates t s told after n before.now before.timely;
      settles = record {
        pins = λ number place exists within.
            pins-kept gates t s told after n number place fine exists within before.now before.timely (before.settles.pins number place exists within);
        values = λ number exists. values-kept gates t s told after n number (before.settles.values number exists);
      };
    })

pub settling_law : SettlingLaw
settling_law gates t s fine reached = (settles_in_time gates t fine s reached).settles

settled : (gates : List LogicGate) (s : State) → s.pending ≡ [] → IsSettling gates s → IsSettled gates s
settled gates s nothing settles = record {
  pins = λ number place exists within.
      sym (ap (arriving number place (level_at s number place)) nothing ∙ arriving-none number place (level_at s number place))
      ∙ settles.pins number place exists within;
  values = λ number exists. elim (settles.values number exists) [
    | inl computed ↦ computed
    | inr will ↦ none-in will.0 (subst (λ es. Contains es will.0) nothing will.1)
  ];
}

pub settled_law : SettledLaw
settled_law gates t s fine reached nothing = settled gates s nothing (settling_law gates t s fine reached)

-- a pin to which nothing is on its way
pub still_pins_law : StillPinsLaw
still_pins_law gates t s number place fine reached exists within none =
    sym (arriving-others number place (level_at s number place) s.pending (recursion_from_All (λ (e : Event). is_for number place e ≡ false) s.pending none))
    ∙ (settling_law gates t s fine reached).pins number place exists within
