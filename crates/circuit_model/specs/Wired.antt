-- How the lists of the pins that gates feed grow, pin by pin and gate by gate.
use Rattle.std.proofs.Common.{◌≡◌, ◌≢◌, ℕ, ◌+◌, ◌<◌, Bool, true, false, cond, List, [], ◌∷◌, ◌++◌, length, refl, sym, ap, ◌∙◌, append-nil, arith, get_or-set_other, get_or-set_same}
use Rattle.std.specs.Prelude.{◌==◌, slice_index_or, slice_set}
use Rattle.std.specs.List.{filter}
use Rattle.std.proofs.Math.ListN.{length-set}
use Rattle.std.proofs.lemmas.Bool.Decides.{nat_tests}
use Rattle.std.proofs.lemmas.List.Elements.{filter-append}
use Rattle.model_core.proofs.Numbers.{flat_map-numbers-more}
use Rattle.circuit_model.specs.declared.gate.LogicGate.{LogicGate}
use Rattle.circuit_model.specs.declared.wiring.Pin.{Pin}
use Rattle.circuit_model.specs.Wiring.{pins_of, pins_below, feeder, fed_among, Lists}

pub Lists-empty : (gates : List LogicGate) (feeds : List (List Pin)) → length feeds ≡ length gates → ((k : ℕ) → slice_index_or feeds k [] ≡ []) → Lists gates feeds []
unfolding fed_among
Lists-empty gates feeds size empty = record { size = size; each = λ number exists. empty number }

fed_among-more : (gates : List LogicGate) (number : ℕ) (pins : List Pin) (p : Pin) (test : Bool) → (feeder gates p == number) ≡ test
    → fed_among gates number (pins ++ p ∷ []) ≡ fed_among gates number pins ++ cond test (p ∷ []) []
unfolding fed_among
fed_among-more gates number pins p test is =
    filter-append (λ q. feeder gates q == number) pins (p ∷ [])
    ∙ ap (λ b. filter (λ q. feeder gates q == number) pins ++ cond b (p ∷ []) []) is

-- a pin more
pub Lists-more : (gates : List LogicGate) (feeds : List (List Pin)) (pins : List Pin) (p : Pin) (source : ℕ) → Lists gates feeds pins
    → feeder gates p ≡ source → source < length gates
    → Lists gates (slice_set feeds source (slice_index_or feeds source [] ++ p ∷ [])) (pins ++ p ∷ [])
Lists-more gates feeds pins p source lists fed exists = record { size = rw length-set lists.size; each = λ number within. by number within (feeder gates p == number) refl }
  where
    here : source < length feeds
    here = omega (arith, lists.size)

    by : (number : ℕ) → number < length gates → (test : Bool) → (feeder gates p == number) ≡ test
        → slice_index_or (slice_set feeds source (slice_index_or feeds source [] ++ p ∷ [])) number [] ≡ fed_among gates number (pins ++ p ∷ [])
    by number within true is =
        let same : number ≡ source = grind (arith, nat_tests) in
        ap (λ n. slice_index_or (slice_set feeds source (slice_index_or feeds source [] ++ p ∷ [])) n []) same
        ∙ get_or-set_same feeds source (slice_index_or feeds source [] ++ p ∷ []) [] here
        ∙ ap (λ n. slice_index_or feeds n [] ++ p ∷ []) (sym same) ∙ ap (λ (xs : List Pin). xs ++ p ∷ []) (lists.each number within)
        ∙ sym (fed_among-more gates number pins p true is)
    by number within false is =
        let other : number ≢ source = grind (arith, nat_tests) in
        get_or-set_other feeds source number (slice_index_or feeds source [] ++ p ∷ []) [] other
        ∙ lists.each number within ∙ sym (append-nil (fed_among gates number pins)) ∙ sym (fed_among-more gates number pins p false is)

-- the pins of a gate more
pub pins_below-more : (gates : List LogicGate) (count : ℕ) → pins_below gates (count + 1) ≡ pins_below gates count ++ pins_of gates count
unfolding pins_below
pins_below-more gates count = flat_map-numbers-more (pins_of gates) count
