-- Words and numbers: what is read was written so, and what is written is read.
use Rattle.std.proofs.Common.{◌≡◌, ℕ, zero, suc, ◌+◌, ◌-◌, ◌*◌, ◌^◌, ◌<◌, ◌≤◌, Bool, true, false, cond, List, [], ◌∷◌, ◌++◌, length, take, drop, get_or, Ok, refl, sym, ap, subst, ◌∙◌, append_assoc, arith}
use Rattle.std.specs.Prelude.{codes, decimal, nat_le, nat_eq, ◌&&◌}
use Rattle.std.specs.Char.{is_ascii_digit}
use Rattle.std.specs.Cmp.Lexicographic.{pointwise}
use Rattle.std.specs.List.{starts_with, take_while}
use Rattle.std.specs.Str.Parse.{AllDigits, digits_value}
use Rattle.std.proofs.lemmas.Bool.{and_from, and_parts, leb-true, le-leb}
use Rattle.std.proofs.lemmas.Bool.Decides.{Decides-eqb}
use Rattle.std.proofs.lemmas.Cmp.{nat_list_eq_equiv}
use Rattle.std.proofs.lemmas.Fmt.{decimal-digits_value, decimal_is_IsNumeral, first_decimal, decimal_digit}
use Rattle.std.proofs.lemmas.Grind.{common_steps}
use Rattle.std.proofs.lemmas.List.{take_at, drop_at, take-append-drop}
use Rattle.std.proofs.lemmas.List.Sums.{take_while-cons}
use Rattle.std.proofs.lemmas.Slice.Eq.{starts_is}
use Rattle.std.proofs.lemmas.Str.Parse.{tells_digits, numerals_by_value, digit_at, digits_value-take-le}
use Rattle.std.proofs.lemmas.Str.{digit_value_digit}
use Rattle.std.proofs.lemmas.Int.Digits.{digits_value_more}
use Rattle.sim_io.specs.Words.{is_decimal}
use Rattle.sim_io.proofs.NumberLemmas.{some_digits}
use Rattle.run_save.specs.Checks.{Checked}
use Rattle.run_save.specs.StateTexts.{field_text}
use Rattle.run_save.specs.Rests.{Rest, formed, after, next_line, digit_count, digits_of, number, field}
use Rattle.run_save.proofs.CheckLemmas.{bound, joined, passes, passed, same_given}

-- bytes that are left at a line
abbrev pub at : List ℕ → ℕ → Rest
at bytes line = record { bytes = bytes; line = line }

-- ---- words

-- whether a word stands in front, asked from either side
pub stripped_is_starts_with : (bytes word : List ℕ) → pointwise nat_eq (take (length word) bytes) word ≡ starts_with nat_eq bytes word
stripped_is_starts_with bytes word = nat_list_eq_equiv.symm (take (length word) bytes) word

pub after-takes : (word : List ℕ) (rest next : Rest) → after word rest ≡ Ok next → rest.bytes ≡ word ++ next.bytes
unfolding after
after-takes word rest next reads =
    let test = bound (formed (starts_with nat_eq rest.bytes word) rest) _ next reads in
    let parts : rest.bytes ≡ word ++ drop (length word) rest.bytes = (starts_is Decides-eqb rest.bytes word _ refl).0 (passes _ _ _ _ test.1) in
    parts ∙ ap (λ (r : Rest). word ++ r.bytes) (same_given _ _ test.2)

pub after-reads : (word more : List ℕ) (line : ℕ) → after word (at (word ++ more) line) ≡ Ok (at more line)
unfolding after
after-reads word more line =
    joined (formed (starts_with nat_eq (word ++ more) word) (at (word ++ more) line)) _ tt _
    (passed _ _ _ ((starts_is Decides-eqb (word ++ more) word _ refl).1 more refl))
    (ap (λ (bytes : List ℕ). Ok (at bytes line)) (drop_at word more (length word) refl))

pub next_line-takes : (rest next : Rest) → next_line rest ≡ Ok next → rest.bytes ≡ codes "\n" ++ next.bytes
unfolding next_line
next_line-takes rest next reads =
    let end = bound (after (codes "\n") rest) _ next reads in
    after-takes (codes "\n") rest end.0 end.1 ∙ ap (λ (r : Rest). codes "\n" ++ r.bytes) (same_given _ _ end.2)

pub next_line-reads : (more : List ℕ) (line : ℕ) → next_line (at (codes "\n" ++ more) line) ≡ Ok (at more (line + 1))
unfolding next_line
next_line-reads more line = joined (after (codes "\n") (at (codes "\n" ++ more) line)) _ (at more line) _ (after-reads (codes "\n") more line) refl

-- ---- digits

-- no digit stands first
abbrev pub IsPlain : List ℕ → Type 0
IsPlain bytes = digit_count bytes ≡ 0

is_digit : (c : ℕ) (cs : List ℕ) → is_ascii_digit c ≡ true → AllDigits 10 cs → AllDigits 10 (c ∷ cs)
is_digit c cs is digits = tells_digits.more c cs (grind (arith, common_steps, is)) digits

while_digits : (c : ℕ) (cs : List ℕ) (b : Bool) → is_ascii_digit c ≡ b → AllDigits 10 (take_while is_ascii_digit cs) → AllDigits 10 (cond b (c ∷ take_while is_ascii_digit cs) [])
while_digits c cs true is digits = is_digit c (take_while is_ascii_digit cs) is digits
while_digits c cs false is digits = tt

pub digits_of-AllDigits : (bytes : List ℕ) → AllDigits 10 (digits_of bytes)
digits_of-AllDigits [] = tt
digits_of-AllDigits (c ∷ cs) = rw (take_while-cons is_ascii_digit c cs) (while_digits c cs (is_ascii_digit c) refl (digits_of-AllDigits cs))

digit_is : (c : ℕ) (cs : List ℕ) → AllDigits 10 (c ∷ cs) → is_ascii_digit c ≡ true
digit_is c cs digits = let range = tells_digits.parts c cs digits in grind (arith, common_steps, range.0)

pub digit_count-append : (digits more : List ℕ) → AllDigits 10 digits → IsPlain more → digit_count (digits ++ more) ≡ length digits
digit_count-append [] more all plain = plain
digit_count-append (c ∷ cs) more all plain =
    let first : is_ascii_digit c ≡ true = digit_is c cs all in
    rw first (omega (arith, digit_count-append cs more all.1 plain))

-- the value of one digit more, which isn't above that of all
pub value-more : (digits : List ℕ) (i value : ℕ) → i < length digits → AllDigits 10 digits → value ≡ digits_value 10 (take i digits)
    → value * 10 + (get_or digits i 0 - 48) ≡ digits_value 10 (take (i + 1) digits)
value-more digits i value within all is =
    let range = digit_at digits i all within in
    let own = digit_value_digit (get_or digits i 0) range in
    let more = digits_value_more 10 digits i within in
    omega (arith, is, own, more, range.0)

pub value-within : (digits : List ℕ) (i value : ℕ) → i < length digits → AllDigits 10 digits → value ≡ digits_value 10 (take i digits)
    → value * 10 + (get_or digits i 0 - 48) ≤ digits_value 10 digits
value-within digits i value within all is = omega (arith, value-more digits i value within all is, digits_value-take-le 10 digits (i + 1) (omega arith))

-- ---- numbers

-- a number that is read was written so
abbrev pub TakesNumber : (ℕ → Rest → Checked (ℕ × Rest)) → (ℕ → List ℕ) → Type 0
TakesNumber read text = (most : ℕ) (rest : Rest) (x : ℕ × Rest) → most < 2 ^ 64 → read most rest ≡ Ok x → (rest.bytes ≡ text x.0 ++ x.1.bytes) × (x.0 ≤ most)

-- a number that is written so is read
abbrev pub ReadsNumber : (ℕ → Rest → Checked (ℕ × Rest)) → (ℕ → List ℕ) → Type 0
ReadsNumber read text = (most n : ℕ) (more : List ℕ) (line : ℕ) → n ≤ most → n < 2 ^ 64 → IsPlain more → read most (at (text n ++ more) line) ≡ Ok (n, at more line)

one_zero : (digits : List ℕ) → is_decimal digits ≡ true → get_or digits 0 0 ≡ 48 → length digits ≡ 1
one_zero [] is first = grind (arith, common_steps, is)
one_zero (c ∷ []) is first = refl
one_zero (c ∷ d ∷ ds) is first = grind (arith, common_steps, is, first)

-- the number is written with these digits
pub decimal-digits : (digits : List ℕ) → AllDigits 10 digits → is_decimal digits ≡ true → digits_value 10 digits < 2 ^ 64 → decimal (digits_value 10 digits) ≡ digits
decimal-digits digits all is fits = decimal-digits_value (numerals_by_value (AllDigits 10) tells_digits) digits all (some_digits digits is) (one_zero digits is) fits

no_zero_first : (digits : List ℕ) → 0 < length digits → 48 < get_or digits 0 0 → is_decimal digits ≡ true
no_zero_first [] some first = absurd (omega arith)
no_zero_first (c ∷ cs) some first = grind (arith, common_steps)

pub decimal-is_decimal : (n : ℕ) → n < 2 ^ 64 → is_decimal (decimal n) ≡ true
decimal-is_decimal zero fits = rw (decimal_digit 0 (omega arith)) refl
decimal-is_decimal (suc n) fits = no_zero_first (decimal (suc n)) (decimal_is_IsNumeral (suc n) fits).0.0 (first_decimal (suc n) (omega arith) fits)

pub number-takes : TakesNumber number decimal
unfolding number
number-takes most rest x small reads =
    let digits = digits_of rest.bytes in
    let test = bound (formed (is_decimal digits && nat_le (digits_value 10 digits) most) rest) _ x reads in
    let holds = and_parts _ _ (passes _ _ _ _ test.1) in
    let within : digits_value 10 digits ≤ most = leb-true _ _ holds.1 in
    let written : decimal (digits_value 10 digits) ≡ digits = decimal-digits digits (digits_of-AllDigits rest.bytes) holds.0 (omega arith) in
    let parts : rest.bytes ≡ decimal (digits_value 10 digits) ++ drop (digit_count rest.bytes) rest.bytes =
    sym (take-append-drop (digit_count rest.bytes) rest.bytes) ∙ ap (λ (t : List ℕ). t ++ drop (digit_count rest.bytes) rest.bytes) (sym written) in
    subst (λ (y : ℕ × Rest). (rest.bytes ≡ decimal y.0 ++ y.1.bytes) × (y.0 ≤ most)) (same_given _ _ test.2) (parts, within)

pub number-reads : ReadsNumber number decimal
unfolding number
number-reads most n more line within fits plain =
    let numeral = decimal_is_IsNumeral n fits in
    let count : digit_count (decimal n ++ more) ≡ length (decimal n) = digit_count-append (decimal n) more numeral.0.1 plain in
    let digits : digits_of (decimal n ++ more) ≡ decimal n = ap (λ k. take k (decimal n ++ more)) count ∙ take_at (decimal n) more (length (decimal n)) refl in
    let rest : drop (digit_count (decimal n ++ more)) (decimal n ++ more) ≡ more = ap (λ k. drop k (decimal n ++ more)) count ∙ drop_at (decimal n) more (length (decimal n)) refl in
    let value : digits_value 10 (digits_of (decimal n ++ more)) ≡ n = ap (digits_value 10) digits ∙ numeral.1 in
    let is : is_decimal (digits_of (decimal n ++ more)) ≡ true = ap (λ (ds : List ℕ). is_decimal ds) digits ∙ decimal-is_decimal n fits in
    let small : nat_le (digits_value 10 (digits_of (decimal n ++ more))) most ≡ true = ap (λ k. nat_le k most) value ∙ le-leb _ _ within in
    joined (formed (is_decimal (digits_of (decimal n ++ more)) && nat_le (digits_value 10 (digits_of (decimal n ++ more))) most) (at (decimal n ++ more) line)) _ tt _
    (passed _ _ _ (and_from _ _ is small))
    (ap (λ (k : ℕ). Ok (k, at (drop (digit_count (decimal n ++ more)) (decimal n ++ more)) line)) value ∙ ap (λ (bytes : List ℕ). Ok (n, at bytes line)) rest)

pub field-takes : TakesNumber field field_text
unfolding field field_text
field-takes most rest x small reads =
    let space = bound (after (codes " ") rest) _ x reads in
    let value = number-takes most space.0 x small space.2 in
    (after-takes (codes " ") rest space.0 space.1 ∙ ap (λ (t : List ℕ). codes " " ++ t) value.0 ∙ sym (append_assoc (codes " ") (decimal x.0) x.1.bytes), value.1)

pub field-reads : ReadsNumber field field_text
unfolding field field_text
field-reads most n more line within fits plain =
    joined (after (codes " ") (at (codes " " ++ (decimal n ++ more)) line)) _ (at (decimal n ++ more) line) _
    (after-reads (codes " ") (decimal n ++ more) line) (number-reads most n more line within fits plain)

pub field_text-IsPlain : (n : ℕ) (more : List ℕ) → IsPlain (field_text n ++ more)
unfolding field_text
field_text-IsPlain n more = refl
