-- Reading from the front of what is left of a text. What isn't of its form is refused at its line.
use Rattle.std.specs.Prelude.{ℕ, zero, suc, ◌+◌, ◌-◌, ◌^◌, Bool, ◌&&◌, nat_eq, nat_le, List, [], ◌∷◌, length, take, drop}
use Rattle.std.specs.Prelude.{codes, Option, Some, None, Ok}
use Rattle.std.specs.Char.{is_ascii_digit}
use Rattle.std.specs.List.{prefix_len, starts_with}
use Rattle.std.specs.Str.Parse.{digits_value}
use Rattle.sim_io.specs.Words.{is_decimal}
use Rattle.run_save.specs.declared.refusal.StateCause.TheVariants.{BadLine}
use Rattle.run_save.specs.Checks.{Checked, wanted, ◌>>=◌}

-- the bytes that are left, and the number of the line in which they begin
pub record Rest : Type 0 where
  pub bytes : List ℕ
  pub line : ℕ

-- what is left is of its form
abbrev pub formed : Bool → Rest → Checked (Unit {0})
formed test rest = wanted test BadLine rest.line

-- what is left after so many bytes of the same line
abbrev pub past : ℕ → Rest → Rest
past n rest = record { bytes = drop n rest.bytes; line = rest.line }

-- a word, and what is left after it
unfoldable pub after : List ℕ → Rest → Checked Rest
after word rest = do
  word_stands ← formed (starts_with nat_eq rest.bytes word) rest
  Ok (past (length word) rest)

-- the end of a line, and what is left from the next one on
unfoldable pub next_line : Rest → Checked Rest
next_line rest = do
  end ← after (codes "\n") rest
  Ok (record { bytes = end.bytes; line = end.line + 1 })

-- how many digits stand at the front, and those digits
abbrev pub digit_count : List ℕ → ℕ
digit_count bytes = prefix_len is_ascii_digit bytes

abbrev pub digits_of : List ℕ → List ℕ
digits_of bytes = take (digit_count bytes) bytes

-- a number that isn't above the greatest, and what is left after it
unfoldable pub number : ℕ → Rest → Checked (ℕ × Rest)
number most rest = do
  of_form ← formed (is_decimal (digits_of rest.bytes) && nat_le (digits_value 10 (digits_of rest.bytes)) most) rest
  Ok (digits_value 10 (digits_of rest.bytes), past (digit_count rest.bytes) rest)

-- a space and a number
unfoldable pub field : ℕ → Rest → Checked (ℕ × Rest)
field most rest = after (codes " ") rest >>= number most

-- so many of a kind, one after another, each read with a look at the one before it
module _ {X : Type 0} (one : Option X → Rest → Checked (X × Rest)) where
  unfoldable pub in_turn : Option X → ℕ → Rest → Checked (List X × Rest)
  in_turn before zero rest = Ok ([], rest)
  in_turn before (suc n) rest = do
    first ← one before rest
    others ← in_turn (Some first.0) n first.1
    Ok (first.0 ∷ others.0, others.1)

-- so many of a kind, one after another
abbrev pub each : {X : Type 0} → (Rest → Checked (X × Rest)) → ℕ → Rest → Checked (List X × Rest)
each one n rest = in_turn (λ _. one) None n rest

-- a space and a number of 32 bits
abbrev pub small_field : Rest → Checked (ℕ × Rest)
small_field rest = field (2 ^ 32 - 1) rest

-- a space and a number of 64 bits
abbrev pub any_field : Rest → Checked (ℕ × Rest)
any_field rest = field (2 ^ 64 - 1) rest

-- how many numbers there are, and the numbers
unfoldable pub counted : Rest → Checked (List ℕ × Rest)
counted rest = do
  many ← any_field rest
  each any_field many.0 many.1
