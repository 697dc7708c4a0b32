-- How the list of initial events grows, gate by gate.
use Rattle.std.proofs.Common.{◌≡◌, ℕ, zero, suc, ◌+◌, ◌<◌, ◌≤◌, Bool, true, false, cond, List, [], ◌∷◌, ◌++◌, length, map, take, refl, sym, ap, subst, ◌∙◌, length-append, arith}
use Rattle.std.specs.Prelude.{◌==◌, not, All, Contains, sum_by}
use Rattle.std.specs.List.{filter, range_with_len}
use Rattle.std.proofs.lemmas.List.{map-append, length-map}
use Rattle.std.proofs.lemmas.List.Sums.{sum_by_more}
use Rattle.std.proofs.Math.Seq.{take-length}
use Rattle.std.proofs.lemmas.Bool.Decides.{nat_tests}
use Rattle.std.proofs.lemmas.List.Elements.{All-nil, All-append, All-filter, All-map, Contains-append_left, Contains-append_right, filter-append}
use Rattle.model_core.specs.declared.event.Start.{Start}
use Rattle.model_core.proofs.Numbers.{flat_map-numbers-more, numbers_below, numbers-more}
use Rattle.circuit_model.specs.declared.gate.LogicGate.{LogicGate}
use Rattle.circuit_model.specs.Gates.{gate_at, is_input, no_gate}
use Rattle.circuit_model.specs.Starts.{compute_start, flip_start, computes, computes_below, flips_of, flips_below, all_flips, starts_of}

-- a gate more
pub computes_below-more : (gates : List LogicGate) (count : ℕ) (test : Bool) → computes gates count ≡ test
    → computes_below gates (count + 1) ≡ computes_below gates count ++ cond test (compute_start count ∷ []) []
unfolding computes_below
computes_below-more gates count test is =
    ap (λ numbers. map compute_start (filter (computes gates) numbers)) (numbers-more 0 count count (omega arith))
    ∙ ap (map compute_start) (filter-append (computes gates) (range_with_len 0 count) (count ∷ []))
    ∙ map-append compute_start (filter (computes gates) (range_with_len 0 count)) (filter (computes gates) (count ∷ []))
    ∙ ap (λ (rest : List Start). map compute_start (filter (computes gates) (range_with_len 0 count)) ++ rest) (by (computes gates count) test is)
  where
    by : (a b : Bool) → a ≡ b → map compute_start (cond a (count ∷ []) []) ≡ cond b (compute_start count ∷ []) []
    by true true is = refl
    by false false is = refl
    by true false is = absurd (grind arith)
    by false true is = absurd (grind arith)

pub flips_below-more : (gates : List LogicGate) (count : ℕ) → flips_below gates (count + 1) ≡ flips_below gates count ++ flips_of gates count
unfolding flips_below
flips_below-more gates count = flat_map-numbers-more (flips_of gates) count

All-computes_below : (P : Start → Type 0) (gates : List LogicGate) (count : ℕ) → ((number : ℕ) → number < count → P (compute_start number)) → All P (computes_below gates count)
unfolding computes_below
All-computes_below P gates count holds =
    let numbers = range_with_len 0 count in
    let below = All-filter (computes gates) (λ number. number < count) numbers (numbers_below count) in
    All-map P compute_start (filter (computes gates) numbers) (λ i d within. holds _ (below i d within))

All-flips_below : (P : Start → Type 0) (gates : List LogicGate) (count : ℕ)
    → ((number : ℕ) → number < count → All (λ time. P (flip_start number time)) (gate_at gates number).flips) → All P (flips_below gates count)
unfolding flips_below
All-flips_below P gates zero holds = All-nil P
All-flips_below P gates (suc count) holds =
    let next : count + 1 ≡ suc count = omega arith in
    subst (λ n. All P (flips_below gates n)) next
    (subst (All P) (sym (flips_below-more gates count))
    (All-append P (flips_below gates count) (flips_of gates count) (All-flips_below P gates count (λ number below. holds number (omega arith)))
    (All-map P (flip_start count) (gate_at gates count).flips (holds count (omega arith)))))

-- what holds of every initial event
pub All-starts_of : (P : Start → Type 0) (gates : List LogicGate) → ((number : ℕ) → number < length gates → P (compute_start number))
    → ((number : ℕ) → number < length gates → All (λ time. P (flip_start number time)) (gate_at gates number).flips) → All P (starts_of gates)
unfolding starts_of
All-starts_of P gates computing flipping =
    All-append P (computes_below gates (length gates)) (all_flips gates) (All-computes_below P gates (length gates) computing) (All-flips_below P gates (length gates) flipping)

computes_below-contain : (gates : List LogicGate) (count number : ℕ) → number < count → computes gates number ≡ true
    → Contains (computes_below gates count) (compute_start number)
computes_below-contain gates zero number below is = absurd (omega arith)
computes_below-contain gates (suc count) number below is =
    let next : count + 1 ≡ suc count = omega arith in
    subst (λ n. Contains (computes_below gates n) (compute_start number)) next
    (subst (λ starts. Contains starts (compute_start number)) (sym (computes_below-more gates count (computes gates count) refl))
    (by (number == count) refl (computes gates count) refl (λ lt. computes_below-contain gates count number lt is)))
  where
    by : (same : Bool) → (number == count) ≡ same → (test : Bool) → computes gates count ≡ test
        → (number < count → Contains (computes_below gates count) (compute_start number))
        → Contains (computes_below gates count ++ cond test (compute_start count ∷ []) []) (compute_start number)
    by false same_is test test_is more =
        let lt : number < count = grind (arith, nat_tests) in Contains-append_left (computes_below gates count) _ (compute_start number) (more lt)
    by true same_is true test_is more =
        let same : count ≡ number = grind (arith, nat_tests) in
        Contains-append_right (computes_below gates count) _ (compute_start number) (0, omega arith, ap compute_start same)
    by true same_is false test_is more = let same : number ≡ count = grind (arith, nat_tests) in absurd (let at = ap (computes gates) same in cc)

-- each gate that is no input computes at the start
pub starts_of-compute : (gates : List LogicGate) (number : ℕ) → number < length gates → is_input (gate_at gates number).kind ≡ false
    → Contains (starts_of gates) (compute_start number)
unfolding starts_of
starts_of-compute gates number exists is =
    Contains-append_left (computes_below gates (length gates)) (all_flips gates) (compute_start number)
    (computes_below-contain gates (length gates) number exists (ap not is))

length-flips_below : (gates : List LogicGate) (count : ℕ) → count ≤ length gates → length (flips_below gates count) ≡ sum_by (λ gate. length gate.flips) (take count gates)
unfolding flips_below
length-flips_below gates zero within = refl
length-flips_below gates (suc count) within =
    let next : count + 1 ≡ suc count = omega arith in
    subst (λ n. length (flips_below gates n) ≡ sum_by (λ gate. length gate.flips) (take n gates)) next
    (ap length (flips_below-more gates count)
    ∙ length-append (flips_below gates count) (flips_of gates count)
    ∙ ap (λ n. n + length (flips_of gates count)) (length-flips_below gates count (omega arith))
    ∙ ap (λ n. sum_by (λ (gate : LogicGate). length gate.flips) (take count gates) + n) (length-map (gate_at gates count).flips (flip_start count))
    ∙ sym (sum_by_more (λ gate. length gate.flips) gates count no_gate (omega arith)))

-- how often the inputs turn in all
pub length-all_flips : (gates : List LogicGate) → length (all_flips gates) ≡ sum_by (λ gate. length gate.flips) gates
length-all_flips gates = length-flips_below gates (length gates) (omega arith) ∙ ap (sum_by (λ gate. length gate.flips)) (take-length gates)
