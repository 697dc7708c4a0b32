-- What stands before the first byte that is no digit is digits.
use Rattle.std.proofs.Common.{List, ℕ, take, sym, ap, subst, ◌∙◌, arith}
use Rattle.std.specs.Char.{is_ascii_digit}
use Rattle.std.specs.Str.Parse.{AllDigits}
use Rattle.std.proofs.lemmas.List.Sums.{prefix_len-le-length}
use Rattle.run_save.proofs.RestLemmas.{digits_of-AllDigits}
use Rattle.run_save.proofs.cursor.Cursor.number.Goals as goal

pub split_at-requires : goal.split_at-requires
split_at-requires c = omega (arith, c.digit_count.ensures, prefix_len-le-length is_ascii_digit c.args.self.now.bytes.now)

pub decimal_value-requires : goal.decimal_value-requires
decimal_value-requires c =
    let bytes = c.args.self.now.bytes.now in
    subst (λ (digits : List ℕ). AllDigits 10 digits) (sym (c.split_at.ensures.front ∙ ap (λ n. take n bytes) c.digit_count.ensures)) (digits_of-AllDigits bytes)
