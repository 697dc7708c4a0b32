-- Bounds that rise, seen pair by pair.
use Rattle.std.proofs.Common.{◌≡◌, ℕ, zero, suc, ◌+◌, ◌-◌, ◌^◌, ◌<◌, ◌≤◌, Bool, true, false, ◌&&◌, nat_lt, IsTrue, List, [], ◌∷◌, length, get_or, drop, refl, ap, sym, ◌∙◌, arith, add-one}
use Rattle.std.specs.Prelude.{nat_le}
use Rattle.std.proofs.lemmas.Bool.Decides.{nat_tests}
use Rattle.random_streams.specs.Delays.{do_rise}

-- whether a bound is above the one before, by at most 2 ^ 32
abbrev pub is_next : ℕ → ℕ → Bool
is_next bound next = nat_lt bound next && nat_le (next - bound) (2 ^ 32)

and-assoc : (a b c : Bool) → (a && b && c) ≡ ((a && b) && c)
and-assoc true b c = refl
and-assoc false b c = refl

pub rise_step : (xs : List ℕ) (k : ℕ) → suc k < length xs
    → do_rise (drop k xs) ≡ (is_next (get_or xs k 0) (get_or xs (suc k) 0) && do_rise (drop (suc k) xs))
unfolding do_rise
rise_step [] k lt = absurd (omega arith)
rise_step (x ∷ []) k lt = absurd (omega arith)
rise_step (x ∷ y ∷ rest) zero lt = and-assoc (nat_lt x y) (nat_le (y - x) (2 ^ 32)) (do_rise (y ∷ rest))
rise_step (x ∷ y ∷ rest) (suc k) lt = rise_step (y ∷ rest) k (omega arith)

pub rise_end : (xs : List ℕ) (k : ℕ) → length xs ≤ suc k → do_rise (drop k xs) ≡ true
unfolding do_rise
rise_end [] zero le = refl
rise_end [] (suc k) le = refl
rise_end (x ∷ []) zero le = refl
rise_end (x ∷ []) (suc k) le = rise_end [] k (omega arith)
rise_end (x ∷ y ∷ rest) zero le = absurd (omega arith)
rise_end (x ∷ y ∷ rest) (suc k) le = rise_end (y ∷ rest) k (omega arith)

pair_at : (xs : List ℕ) (k : ℕ) → IsTrue (do_rise xs) → suc k < length xs
    → (get_or xs k 0 < get_or xs (suc k) 0) × (get_or xs (suc k) 0 - get_or xs k 0 ≤ 2 ^ 32)
unfolding do_rise
pair_at [] k rise lt = absurd (omega arith)
pair_at (x ∷ []) k rise lt = absurd (omega arith)
pair_at (x ∷ y ∷ rest) zero rise lt = grind (arith, nat_tests)
pair_at (x ∷ y ∷ rest) (suc k) rise lt = pair_at (y ∷ rest) k (grind (arith, nat_tests)) (omega arith)

-- each pair of bounds that rise
pub rise_at : (xs : List ℕ) (k : ℕ) → IsTrue (do_rise xs) → k + 1 < length xs
    → (get_or xs k 0 < get_or xs (k + 1) 0) × (get_or xs (k + 1) 0 - get_or xs k 0 ≤ 2 ^ 32)
rise_at xs k rise lt = rw add-one (pair_at xs k rise (omega arith))

-- one pair before the rest, as a loop finds it
pub rise_next : (xs : List ℕ) (at : ℕ) → 1 ≤ at → at < length xs
    → do_rise (drop (at - 1) xs) ≡ (is_next (get_or xs (at - 1) 0) (get_or xs at 0) && do_rise (drop at xs))
rise_next xs zero some lt = absurd (omega arith)
rise_next xs (suc k) some lt =
    let before : suc k - 1 ≡ k = omega arith in
    rw before (rise_step xs k lt)

pub goes_on : (xs : List ℕ) (at : ℕ) → 1 ≤ at → at < length xs → get_or xs (at - 1) 0 < get_or xs at 0 → get_or xs at 0 - get_or xs (at - 1) 0 ≤ 2 ^ 32
    → do_rise (drop at xs) ≡ do_rise (drop (at - 1) xs)
goes_on xs at some lt above near =
    let next : is_next (get_or xs (at - 1) 0) (get_or xs at 0) ≡ true = grind (arith, nat_tests) in
    sym (rise_next xs at some lt ∙ ap (λ b. b && do_rise (drop at xs)) next)

pub stops : (xs : List ℕ) (at : ℕ) → 1 ≤ at → at < length xs → is_next (get_or xs (at - 1) 0) (get_or xs at 0) ≡ false
    → do_rise (drop (at - 1) xs) ≡ false
stops xs at some lt not_next = rise_next xs at some lt ∙ ap (λ b. b && do_rise (drop at xs)) not_next

-- no pair is left
pub all_rise : (xs : List ℕ) (at : ℕ) → 1 ≤ at → length xs ≤ at → do_rise (drop (at - 1) xs) ≡ true
all_rise xs at some done = rise_end xs (at - 1) (omega arith)
