-- What `parse` reads of a number of one to nineteen digits.
use Rattle.std.proofs.Common.{◌≡◌, ℕ, ◌<◌, ◌≤◌, ◌^◌, true, List, [], ◌∷◌, length, refl, sym, subst, arith}
use Rattle.std.specs.Char.{is_ascii_digit}
use Rattle.std.specs.List.{list_all}
use Rattle.std.specs.Str.Parse.{AllDigits, IsNumeral, digits_value, without_leading_plus}
use Rattle.std.proofs.lemmas.Str.Parse.{tells_digits}
use Rattle.std.proofs.lemmas.Int.Digits.{digits_value-lt}
use native.Mathlib.Nat.{pow-le-pow_right}
use Rattle.std.proofs.lemmas.Grind.{common_steps}
use Rattle.std.proofs.lemmas.Bool.{and_parts, ltb-true}
use Rattle.sim_io.specs.Words.{is_decimal, is_number}

all_digits : (ds : List ℕ) → list_all is_ascii_digit ds ≡ true → AllDigits 10 ds
all_digits [] h = tt
all_digits (c ∷ cs) h = tells_digits.more c cs (grind (arith, common_steps, h)) (all_digits cs (grind (arith, common_steps, h)))

no_plus : (ds : List ℕ) → list_all is_ascii_digit ds ≡ true → without_leading_plus ds ≡ ds
no_plus [] h = refl
no_plus (c ∷ cs) h = grind (arith, common_steps, h)

has_digits : (word : List ℕ) → is_number word ≡ true → list_all is_ascii_digit word ≡ true
has_digits word h = grind (arith, common_steps, h)

is_short : (word : List ℕ) → is_number word ≡ true → length word ≤ 19
is_short word h = grind (arith, common_steps, h)

-- a number has a digit
pub some_digits : (digits : List ℕ) → is_decimal digits ≡ true → 0 < length digits
some_digits digits is = ltb-true _ _ (and_parts _ _ is).0

fits : (word : List ℕ) → is_number word ≡ true → digits_value 10 word < 2 ^ 64
fits word h =
    let value = digits_value-lt 10 word (all_digits word (has_digits word h)) in
    let small : 10 ^ length word ≤ 10 ^ 19 = pow-le-pow_right (omega arith) (is_short word h) in
    omega (arith, value, small)

-- a number is a numeral that fits, with no plus before it
pub parsed : (word : List ℕ) → is_number word ≡ true → IsNumeral 10 (without_leading_plus word) × (digits_value 10 (without_leading_plus word) < 2 ^ 64)
parsed word h =
    let P : List ℕ → Type 0 = λ w. IsNumeral 10 w × (digits_value 10 w < 2 ^ 64) in
    subst P (sym (no_plus word (has_digits word h))) ((some_digits word (and_parts _ _ (and_parts _ _ h).0).0, all_digits word (has_digits word h)), fits word h)
