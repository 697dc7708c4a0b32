-- The first tick of a slot.
use Rattle.std.proofs.Common.{◌≡◌, ℕ, ◌+◌, ◌*◌, ◌/◌, ◌%◌, ◌^◌, ◌<◌, ◌≤◌, inl, inr, sym, ◌∙◌, ap, subst, arith}
use Rattle.std.proofs.Math.Nat.{div-eq_of_lt}
use Rattle.std.proofs.lemmas.Bool.{cases_lt}
use Rattle.std.proofs.lemmas.Nat.{pow_pos, div-mul-add}
use Rattle.tick_queue.specs.Digits.{InSlot}
use Rattle.tick_queue.proofs.DigitLemmas.{agree-up, less_from, up_six}

-- the first tick of the slot in which another one stands
abbrev pub first_of : ℕ → ℕ → ℕ
first_of slot t = t / 2 ^ (6 * (slot / 64)) * 2 ^ (6 * (slot / 64))

pub first_le : (slot t : ℕ) → first_of slot t ≤ t
first_le slot t = let p = pow_pos (6 * (slot / 64)) in omega (arith, p)

-- it begins with the same digits
pub first_digits : (slot t : ℕ) → first_of slot t / 2 ^ (6 * (slot / 64)) ≡ t / 2 ^ (6 * (slot / 64))
first_digits slot t =
    let p = pow_pos (6 * (slot / 64)) in
    let e = div-mul-add (t / 2 ^ (6 * (slot / 64))) (2 ^ (6 * (slot / 64))) 0 p in
    let zero : first_of slot t + 0 ≡ first_of slot t = omega arith in
    ap (λ n. n / 2 ^ (6 * (slot / 64))) (sym zero) ∙ e

-- on the lowest level it is the tick itself
pub first_lowest : (slot t next : ℕ) → slot < 64 → next ≡ first_of slot t → t ≡ next
first_lowest slot t next low is =
    let z : slot / 64 ≡ 0 = omega arith in
    let P : ℕ → Type 0 = λ n. next ≡ t / 2 ^ (6 * n) * 2 ^ (6 * n) in
    let lowest : next ≡ t / 1 * 1 = subst P z is in
    omega arith

-- what is computed
shifted : (now slot t : ℕ) → InSlot now slot t → now / 2 ^ (6 * (slot / 64)) / 64 * 64 + slot % 64 ≡ t / 2 ^ (6 * (slot / 64))
shifted now slot t at =
    let k : ℕ = 6 * (slot / 64) in
    let same = up_six now k ∙ sym at.above ∙ sym (up_six t k) in
    let digit = at.digit_is in
    omega (arith, same, digit)

pub first_is : (now slot t : ℕ) → InSlot now slot t → t < 2 ^ 48 → (now / 2 ^ (6 * (slot / 64)) / 64 * 64 + slot % 64) * 2 ^ (6 * (slot / 64)) % 2 ^ 64 ≡ first_of slot t
first_is now slot t at small =
    let e = ap (λ n. n * 2 ^ (6 * (slot / 64))) (shifted now slot t at) in
    let le = first_le slot t in
    omega (arith, e, le)

-- ticks of a slot are small where one is
pub small_too : (now slot s t : ℕ) → slot < 512 → InSlot now slot s → s < 2 ^ 48 → InSlot now slot t → t < 2 ^ 48
small_too now slot s t lt here small there =
    let same = agree-up t s (6 * (slot / 64) + 6) 48 (omega arith) (there.above ∙ sym here.above) in
    let none = div-eq_of_lt {n = s} {m = 2 ^ 48} small in
    omega (arith, same, none)

-- it stands in the slot, unless that is of the lowest level, and comes after the tick at hand
first_above : (now slot t next : ℕ) → 64 ≤ slot → InSlot now slot t → next ≡ first_of slot t → now / 2 ^ (6 * (slot / 64)) < next / 2 ^ (6 * (slot / 64))
first_above now slot t next high at is =
    let same = ap (λ n. n / 2 ^ (6 * (slot / 64))) is ∙ first_digits slot t in
    let after = at.after (omega arith) in
    omega (arith, same, after)

pub first_after : (now slot t next : ℕ) → 64 ≤ slot → InSlot now slot t → next ≡ first_of slot t → now < next
first_after now slot t next high at is = less_from now next (6 * (slot / 64)) (first_above now slot t next high at is)

pub first_stands : (now slot t next : ℕ) → InSlot now slot t → next ≡ first_of slot t → InSlot now slot next
first_stands now slot t next at is =
    elim (cases_lt slot 64) [
      | inl low ↦ (let P : ℕ → Type 0 = InSlot now slot in subst P (first_lowest slot t next low is) at)
      | inr high ↦ (
          let same = ap (λ n. n / 2 ^ (6 * (slot / 64))) is ∙ first_digits slot t in
          let lt = first_after now slot t next high at is in
          record {
            from = omega (arith, lt);
            above = agree-up next t (6 * (slot / 64)) (6 * (slot / 64) + 6) (omega arith) same ∙ at.above;
            digit_is = ap (λ n. n % 64) same ∙ at.digit_is;
            after = λ _. first_above now slot t next high at is;
          })
    ]
