-- Ticks by their digits: the order of slots is the order of their ticks, and it stays when the tick at hand goes on.
use Rattle.std.proofs.Common.{◌≡◌, ℕ, suc, ◌+◌, ◌-◌, ◌*◌, ◌/◌, ◌%◌, ◌^◌, ◌<◌, ◌≤◌, ◌⊎◌, inl, inr, sym, ◌∙◌, ap, subst, refl, arith}
use Rattle.std.specs.Prelude.{bit_xor, bit_or}
use Rattle.std.proofs.Math.Pow.{shr_mono, pow_mono}
use Rattle.std.proofs.Math.Nat.{div-eq_of_lt, pow-suc}
use Rattle.std.proofs.lemmas.Nat.{shr-shr, xor_shr, or_shr, xor_lt, le-div, pow_pos}
use Rattle.std.proofs.lemmas.Nat.Bits.{same_from_bits, bit_at_xor, bit_at-zero, bit_at-lt}
use Rattle.std.proofs.lemmas.Bool.{cases_lt}
use Rattle.std.specs.Int.{bit_at}
use Rattle.std.specs.Int.Bits.{xor_self, or_zero_r}
use Rattle.tick_queue.specs.Digits.{IsAt, InSlot}

-- ticks that agree from a bit on agree from a higher one on
pub agree-up : (a b j k : ℕ) → j ≤ k → a / 2 ^ j ≡ b / 2 ^ j → a / 2 ^ k ≡ b / 2 ^ k
agree-up a b j k le same =
    let e : j + (k - j) ≡ k = omega arith in
    let P : ℕ → Type 0 = λ n. a / 2 ^ n ≡ b / 2 ^ n in
    subst P e (sym (shr-shr a j (k - j)) ∙ ap (λ n. n / 2 ^ (k - j)) same ∙ shr-shr b j (k - j))

-- a lesser quotient is that of a lesser number
pub less_from : (a b k : ℕ) → a / 2 ^ k < b / 2 ^ k → a < b
less_from a b k lt = elim (cases_lt a b) [ inl less ↦ less | inr more ↦ absurd (let m = shr_mono {a = b} {b = a} k more in omega arith) ]

-- six more bits
pub up_six : (a k : ℕ) → a / 2 ^ k / 64 ≡ a / 2 ^ (k + 6)
up_six a k = shr-shr a k 6

-- ticks of one level are ordered by their digits there
digits_less : (a b k : ℕ) → a / 2 ^ (k + 6) ≡ b / 2 ^ (k + 6) → a / 2 ^ k % 64 < b / 2 ^ k % 64 → a / 2 ^ k < b / 2 ^ k
digits_less a b k same lt =
    let e = up_six a k ∙ same ∙ sym (up_six b k) in
    omega (arith, e)

-- a tick in an earlier slot comes before one in a later slot
at_less : (now l d s l2 d2 t : ℕ) → IsAt now l d s → IsAt now l2 d2 t → (l < l2) ⊎ ((l ≡ l2) × (d < d2)) → s < t
at_less now l d s l2 d2 t here there (inl lower) =
    let same = agree-up s now (6 * l + 6) (6 * l2) (omega arith) here.above in
    less_from s t (6 * l2) (omega (arith, same, there.after (omega arith)))
at_less now l d s l2 d2 t here there (inr less) =
    let P : ℕ → Type 0 = λ n. IsAt now n d2 t in
    let at = subst P (sym less.0) there in
    less_from s t (6 * l) (digits_less s t (6 * l) (here.above ∙ sym at.above) (omega (arith, here.digit_is, at.digit_is, less.1)))

-- what stands in a later slot than the tick to which now goes on stands there afterwards
at_later : (now l d next l2 d2 t : ℕ) → IsAt now l d next → IsAt now l2 d2 t → (l < l2) ⊎ ((l ≡ l2) × (d < d2)) → IsAt next l2 d2 t
at_later now l d next l2 d2 t here there (inl lower) =
    let less = at_less now l d next l2 d2 t here there (inl lower) in
    record {
      from = omega (arith, less);
      above = there.above ∙ sym (agree-up next now (6 * l + 6) (6 * l2 + 6) (omega arith) here.above);
      digit_is = there.digit_is;
      after = λ some. let same = agree-up next now (6 * l + 6) (6 * l2) (omega arith) here.above in omega (arith, same, there.after some);
    }
at_later now l d next l2 d2 t here there (inr less) =
    let P : ℕ → Type 0 = λ n. IsAt now n d2 t in
    let Q : ℕ → Type 0 = λ n. IsAt next n d2 t in
    let at = subst P (sym less.0) there in
    let lt = digits_less next t (6 * l) (here.above ∙ sym at.above) (omega (arith, here.digit_is, at.digit_is, less.1)) in
    let done : IsAt next l d2 t = record {
      from = let early = less_from next t (6 * l) lt in omega (arith, early);
      above = at.above ∙ sym here.above;
      digit_is = at.digit_is;
      after = λ _. lt;
    } in
    subst Q less.0 done

-- slots in order
slot_cases : (i j : ℕ) → i < j → (i / 64 < j / 64) ⊎ ((i / 64 ≡ j / 64) × (i % 64 < j % 64))
slot_cases i j lt =
    elim (cases_lt (i / 64) (j / 64)) [
      | inl lower ↦ inl lower
      | inr same ↦ inr (omega arith, omega arith)
    ]

pub slots_less : (now i s j t : ℕ) → InSlot now i s → InSlot now j t → i < j → s < t
slots_less now i s j t here there lt = at_less now (i / 64) (i % 64) s (j / 64) (j % 64) t here there (slot_cases i j lt)

pub slots_later : (now i next j t : ℕ) → InSlot now i next → InSlot now j t → i < j → InSlot next j t
slots_later now i next j t here there lt = at_later now (i / 64) (i % 64) next (j / 64) (j % 64) t here there (slot_cases i j lt)

-- numbers whose bits don't differ are the same
sum_even : (a b : ℕ) → a < 2 → b < 2 → (a + b) % 2 ≡ 0 → a ≡ b
sum_even a b la lb even = omega arith

same_from_xor : (a b : ℕ) → bit_xor a b ≡ 0 → a ≡ b
same_from_xor a b none =
    same_from_bits a b (λ i. sum_even (bit_at a i) (bit_at b i) (bit_at-lt a i) (bit_at-lt b i) (sym (bit_at_xor a b i) ∙ ap (λ n. bit_at n i) none ∙ bit_at-zero i))

-- the lowest bit doesn't matter above it
above_lowest : (x k : ℕ) → 1 ≤ k → bit_or x 1 / 2 ^ k ≡ x / 2 ^ k
above_lowest x k some =
    let none : 1 / 2 ^ k ≡ 0 = div-eq_of_lt (let p = pow_mono {i = 1} {j = k} some in omega (arith, p)) in
    or_shr x 1 k ∙ ap (bit_or (x / 2 ^ k)) none ∙ or_zero_r (x / 2 ^ k)

-- the level of the highest bit in which a tick differs from now
above_none : (x r l : ℕ) → x < 2 * 2 ^ r → l ≡ r / 6 → x / 2 ^ (6 * l + 6) ≡ 0
above_none x r l high is = div-eq_of_lt (let p = pow_mono {i = suc r} {j = 6 * l + 6} (omega arith) in omega (arith, p, pow-suc 2 r))

some_here : (x r l : ℕ) → 2 ^ r ≤ x → l ≡ r / 6 → 1 ≤ x / 2 ^ (6 * l)
some_here x r l low is = le-div 1 x (2 ^ (6 * l)) (pow_pos (6 * l)) (let p = pow_mono {i = 6 * l} {j = r} (omega arith) in omega (arith, p))

goes_after : (now tick k : ℕ) → now ≤ tick → 1 ≤ bit_xor tick now / 2 ^ k → now / 2 ^ k < tick / 2 ^ k
goes_after now tick k le some =
    elim (cases_lt (now / 2 ^ k) (tick / 2 ^ k)) [
      | inl less ↦ less
      | inr more ↦ absurd (
          let m = shr_mono {a = now} {b = tick} k le in
          let same : tick / 2 ^ k ≡ now / 2 ^ k = omega (arith, m, more) in
          let none : bit_xor tick now / 2 ^ k ≡ 0 = xor_shr tick now k ∙ ap (λ n. bit_xor n (now / 2 ^ k)) same ∙ xor_self (now / 2 ^ k) in
          omega (arith, none, some))
    ]

pub level_is : (now tick r l : ℕ) → now ≤ tick → 2 ^ r ≤ bit_or (bit_xor tick now) 1 → bit_or (bit_xor tick now) 1 < 2 * 2 ^ r → l ≡ r / 6
    → IsAt now l (tick / 2 ^ (6 * l) % 64) tick
level_is now tick r l le low high is =
    let x : ℕ = bit_xor tick now in
    let none : x / 2 ^ (6 * l + 6) ≡ 0 = sym (above_lowest x (6 * l + 6) (omega arith)) ∙ above_none (bit_or x 1) r l high is in
    record {
      from = le;
      above = same_from_xor (tick / 2 ^ (6 * l + 6)) (now / 2 ^ (6 * l + 6)) (sym (xor_shr tick now (6 * l + 6)) ∙ none);
      digit_is = refl;
      after = λ some. goes_after now tick (6 * l) le (let e = above_lowest x (6 * l) (omega arith) in let one = some_here (bit_or x 1) r l low is in omega (arith, e, one));
    }

-- there are eight levels
pub level_small : (now tick r : ℕ) → now < 2 ^ 48 → tick < 2 ^ 48 → 2 ^ r ≤ bit_or (bit_xor tick now) 1 → r / 6 < 8
level_small now tick r small_now small low =
    let x = xor_lt 48 tick now small small_now in
    let none : bit_or (bit_xor tick now) 1 / 2 ^ 48 ≡ 0 = above_lowest (bit_xor tick now) 48 (omega arith) ∙ div-eq_of_lt {n = bit_xor tick now} {m = 2 ^ 48} x in
    elim (cases_lt r 48) [ inl less ↦ omega arith | inr more ↦ absurd (let p = pow_mono {i = 48} {j = r} more in omega (arith, p, none, low)) ]

pub slot_is : (now tick l i : ℕ) → i ≡ 64 * l + tick / 2 ^ (6 * l) % 64 → IsAt now l (tick / 2 ^ (6 * l) % 64) tick → InSlot now i tick
slot_is now tick l i is at =
    let level : l ≡ i / 64 = omega arith in
    let digit : tick / 2 ^ (6 * l) % 64 ≡ i % 64 = omega arith in
    let Q : ℕ → Type 0 = λ n. IsAt now n (tick / 2 ^ (6 * l) % 64) tick in
    let R : ℕ → Type 0 = λ n. IsAt now (i / 64) n tick in
    subst R digit (subst Q level at)

-- ticks in slots are small
pub tick_small : (now slot t : ℕ) → now < 2 ^ 48 → slot < 512 → InSlot now slot t → t < 2 ^ 48
tick_small now slot t small lt at =
    let same = agree-up t now (6 * (slot / 64) + 6) 48 (omega arith) at.above in
    let none = div-eq_of_lt {n = now} {m = 2 ^ 48} small in
    omega (arith, same, none)
