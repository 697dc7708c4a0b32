-- Bounds that rise, compared pair by pair, as a loop does.
use Rattle.std.proofs.Common.{◌≡◌, ℕ, ◌+◌, ◌-◌, ◌<◌, ◌≤◌, Bool, true, false, List, [], ◌∷◌, length, drop, get_or, Ok, refl, ◌∙◌, arith}
use Rattle.std.specs.Prelude.{nat_le, nat_lt, IsTrue}
use Rattle.std.proofs.lemmas.Bool.Decides.{nat_tests}
use Rattle.std.proofs.lemmas.List.{drop_more, drop_all}
use Rattle.random_streams.specs.Delays.{do_rise}
use Rattle.text_fields.specs.declared.refusal.Cause.TheVariants.{BadValue, Limit}
use Rattle.text_fields.specs.Checks.{Checked, refusal, refusal_where, ◌>>=◌}
use Rattle.shop_text.specs.LawTexts.{rising}

-- the checks of one pair, and of the rest
abbrev pair : ℕ → ℕ → ℕ → Checked (Unit {0}) → Checked (Unit {0})
pair item bound next rest =
    refusal_where (nat_le next bound) BadValue item >>= (λ above. refusal_where (nat_lt 4294967296 (next - bound)) Limit item >>= (λ near. rest))

rising-pair : (item : ℕ) (bounds : List ℕ) (i : ℕ) → i + 1 < length bounds
    → rising item (drop i bounds) ≡ pair item (get_or bounds i 0) (get_or bounds (i + 1) 0) (rising item (drop (i + 1) bounds))
rising-pair item bounds i within =
    let one : drop i bounds ≡ get_or bounds i 0 ∷ drop (i + 1) bounds = drop_more bounds i 0 (omega (arith, within)) in
    let two : drop (i + 1) bounds ≡ get_or bounds (i + 1) 0 ∷ drop (i + 1 + 1) bounds = drop_more bounds (i + 1) 0 within in
    rw (one, two) refl

pub rising-low : (item : ℕ) (bounds : List ℕ) (i : ℕ) → i + 1 < length bounds → get_or bounds (i + 1) 0 ≤ get_or bounds i 0
    → rising item (drop i bounds) ≡ refusal BadValue item
rising-low item bounds i within low =
    let is : nat_le (get_or bounds (i + 1) 0) (get_or bounds i 0) ≡ true = grind (arith, nat_tests, low) in
    rising-pair item bounds i within ∙ rw is refl

pub rising-far : (item : ℕ) (bounds : List ℕ) (i : ℕ) → i + 1 < length bounds → get_or bounds i 0 < get_or bounds (i + 1) 0
    → 4294967296 < get_or bounds (i + 1) 0 - get_or bounds i 0 → rising item (drop i bounds) ≡ refusal Limit item
rising-far item bounds i within above far =
    let no : nat_le (get_or bounds (i + 1) 0) (get_or bounds i 0) ≡ false = grind (arith, nat_tests, above) in
    let is : nat_lt 4294967296 (get_or bounds (i + 1) 0 - get_or bounds i 0) ≡ true = grind (arith, nat_tests, far) in
    rising-pair item bounds i within ∙ rw (no, is) refl

pub rising-on : (item : ℕ) (bounds : List ℕ) (i : ℕ) → i + 1 < length bounds → get_or bounds i 0 < get_or bounds (i + 1) 0
    → get_or bounds (i + 1) 0 - get_or bounds i 0 ≤ 4294967296 → rising item (drop i bounds) ≡ rising item (drop (i + 1) bounds)
rising-on item bounds i within above near =
    let no : nat_le (get_or bounds (i + 1) 0) (get_or bounds i 0) ≡ false = grind (arith, nat_tests, above) in
    let not_far : nat_lt 4294967296 (get_or bounds (i + 1) 0 - get_or bounds i 0) ≡ false = grind (arith, nat_tests, near) in
    rising-pair item bounds i within ∙ rw (no, not_far) refl

pub rising-end : (item : ℕ) (bounds : List ℕ) (i : ℕ) → length bounds ≤ i + 1 → rising item (drop i bounds) ≡ Ok tt
rising-end item bounds i all = by (nat_lt i (length bounds)) refl
  where
    by : (b : Bool) → nat_lt i (length bounds) ≡ b → rising item (drop i bounds) ≡ Ok tt
    by true is =
        let within : i < length bounds = grind (arith, nat_tests, is) in
        let one : drop i bounds ≡ get_or bounds i 0 ∷ drop (i + 1) bounds = drop_more bounds i 0 within in
        let none : drop (i + 1) bounds ≡ [] = drop_all (i + 1) bounds all in
        rw (one, none) refl
    by false is =
        let past : length bounds ≤ i = grind (arith, nat_tests, is) in
        let none : drop i bounds ≡ [] = drop_all i bounds past in
        rw none refl

passed : (low far : Bool) (item : ℕ) (rest : Checked (Unit {0}))
    → (refusal_where low BadValue item >>= (λ above. refusal_where far Limit item >>= (λ near. rest))) ≡ Ok tt → (low ≡ false) × (far ≡ false) × (rest ≡ Ok tt)
passed true far item rest passes = cc
passed false true item rest passes = cc
passed false false item rest passes = (refl, refl, passes)

pub rising-rise : (item : ℕ) (bounds : List ℕ) → rising item bounds ≡ Ok tt → IsTrue (do_rise bounds)
unfolding do_rise
rising-rise item [] passes = refl
rising-rise item (bound ∷ []) passes = refl
rising-rise item (bound ∷ next ∷ rest) passes =
    let parts = passed (nat_le next bound) (nat_lt 4294967296 (next - bound)) item (rising item (next ∷ rest)) passes in
    let others : do_rise (next ∷ rest) ≡ true = rising-rise item (next ∷ rest) parts.2 in
    let above : nat_lt bound next ≡ true = grind (arith, nat_tests, parts.0) in
    let near : nat_le (next - bound) 4294967296 ≡ true = grind (arith, nat_tests, parts.1) in
    rw (above, near, others) refl
