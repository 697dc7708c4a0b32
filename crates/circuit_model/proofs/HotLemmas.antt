-- What events need of gates stands for the gates.
use Rattle.std.proofs.Common.{◌≡◌, ℕ, Bool, true, false, ◌+◌, ◌-◌, ◌<◌, ◌≤◌, List, [], ◌∷◌, ◌++◌, length, take, drop, refl, ap, ◌∙◌, arith, length-append, length-drop, subst}
use Rattle.std.specs.Prelude.{◌==◌, slice_range, IsTrue}
use Rattle.std.proofs.Math.Seq.{take-length, drop-append_seam}
use Rattle.std.proofs.lemmas.Bool.Decides.{nat_tests}
use Rattle.std.proofs.lemmas.List.{length-replicate, take-append-le, drop-append-le, get_or_push, get_or_append_left}
use Rattle.delta_exchange.specs.Changes.{CellData}
use Rattle.model_core.specs.declared.event.Event.{Event}
use Rattle.circuit_model.specs.declared.gate.LogicGate.{LogicGate}
use Rattle.circuit_model.specs.declared.hot.HotGate.{HotGate}
use Rattle.circuit_model.specs.declared.wiring.Pin.{Pin}
use Rattle.circuit_model.specs.Events.{output_after, is_gate_cells, effect_of}
use Rattle.circuit_model.specs.Gates.{gate_at, HasPins}
use Rattle.circuit_model.specs.Hot.{hot_of, hot_at, bare, pins_fed, StandsFor, HaveHot}
use Rattle.circuit_model.specs.Wiring.{fed_by}

-- gates of one kind, with as many pins, one delay and one probe
pub record AreAlike (a b : LogicGate) : Type 0 where
  pub kind : a.kind ≡ b.kind
  pub pins : length a.from ≡ length b.from
  pub delay : a.delay ≡ b.delay
  pub probe : a.probe ≡ b.probe

pub effects-alike : (a b : LogicGate) (pins : List Pin) (cells : CellData) (event : Event) → AreAlike a b → effect_of a pins cells event ≡ effect_of b pins cells event
unfolding output_after
effects-alike a b pins cells event alike = rw (alike.kind, alike.pins, alike.delay, alike.probe) refl

pub stands-alike : {gates : List LogicGate} {fed : List Pin} {number : ℕ} {hot : HotGate} → StandsFor gates fed number hot → AreAlike (bare hot) (gate_at gates number)
stands-alike {hot = hot} stands = record {
  kind = stands.kind;
  pins = length-replicate hot.pins 0 ∙ stands.pins;
  delay = stands.delay;
  probe = stands.probe;
}

pub lawful-alike : (a b : LogicGate) (cells : CellData) → AreAlike a b → IsTrue (is_gate_cells b cells) → IsTrue (is_gate_cells a cells)
lawful-alike a b cells alike lawful = rw alike.pins lawful

pub pins-alike : (a b : LogicGate) → AreAlike a b → HasPins b.kind (length b.from) → HasPins a.kind (length a.from)
pins-alike a b alike has = rw (alike.kind, alike.pins) has

-- what stands in the list of pins stays there
within-more : (fed pins : List Pin) (first count : ℕ) → first + count ≤ length fed → slice_range (fed ++ pins) first (first + count) ≡ slice_range fed first (first + count)
within-more fed pins first count within =
    let begins : first ≤ length fed = omega arith in
    let many : first + count - first ≤ length (drop first fed) = omega (arith, length-drop first fed) in
    ap (take (first + count - first)) (drop-append-le first fed pins begins) ∙ take-append-le (first + count - first) (drop first fed) pins many

stays : (gates : List LogicGate) (fed pins : List Pin) (number : ℕ) (hot : HotGate) → StandsFor gates fed number hot → StandsFor gates (fed ++ pins) number hot
stays gates fed pins number hot stands = record {
  kind = stands.kind;
  pins = stands.pins;
  delay = stands.delay;
  probe = stands.probe;
  within = omega (arith, stands.within, length-append fed pins);
  feeds = within-more fed pins hot.first hot.fed stands.within ∙ stands.feeds;
}

begins : (gates : List LogicGate) (fed pins : List Pin) (number : ℕ) → pins ≡ fed_by gates number
    → StandsFor gates (fed ++ pins) number (hot_of (gate_at gates number) (length fed) (length pins))
begins gates fed pins number is = record {
  kind = refl;
  pins = refl;
  delay = refl;
  probe = refl;
  within = omega (arith, length-append fed pins);
  feeds =
      let many : length fed + length pins - length fed ≡ length pins = omega arith in
      rw many (ap (take (length pins)) (drop-append_seam fed pins) ∙ take-length pins) ∙ is;
}

-- those of one gate more
pub HaveHot-more : (gates : List LogicGate) (hots : List HotGate) (fed pins : List Pin) (count : ℕ) → HaveHot gates hots fed count → length pins ≤ 8 → pins ≡ fed_by gates count
    → HaveHot gates (hots ++ hot_of (gate_at gates count) (length fed) (length pins) ∷ []) (fed ++ pins) (count + 1)
HaveHot-more gates hots fed pins count have few is = record {
  size = omega (arith, have.size, length-append hots (new ∷ []));
  few = omega (arith, have.few, length-append fed pins);
  each = λ number within. by number within (number == count) refl;
}
  where
    new : HotGate
    new = hot_of (gate_at gates count) (length fed) (length pins)

    by : (number : ℕ) → number < count + 1 → (test : Bool) → (number == count) ≡ test → StandsFor gates (fed ++ pins) number (hot_at (hots ++ new ∷ []) number)
    by number within true same =
        let here : count ≡ number = grind (arith, nat_tests) in
        let at : hot_at (hots ++ new ∷ []) number ≡ new = get_or_push hots new _ number (have.size ∙ here) in
        rw at (subst (λ n. StandsFor gates (fed ++ pins) n new) here (begins gates fed pins count is))
    by number within false other =
        let before : number < count = grind (arith, nat_tests) in
        let at : hot_at (hots ++ new ∷ []) number ≡ hot_at hots number = get_or_append_left hots (new ∷ []) _ number (omega (arith, have.size)) in
        rw at (stays gates fed pins number (hot_at hots number) (have.each number before))
