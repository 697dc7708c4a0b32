-- The reader of these texts, and that it keeps the laws of readers.
use Rattle.std.specs.Prelude.{◌≡◌, ℕ, ◌+◌, Bool, true, false, List, [], length, take, Ok, IsOk, refl}
use Rattle.std.specs.Str.{is_utf8, chars}
use Rattle.std.proofs.Common.{ltb, ltb-true, lt-ltb, sym, ap, subst, arith}
use Rattle.std.proofs.lemmas.Bool.{ltb-false}
use Rattle.std.proofs.lemmas.List.{take_all, length-take}
use Rattle.toml.specs.Parse.{parse_document, lines, skip_bom}
use Rattle.toml_parser.specs.Lexical.{skip_from, skip_ws}
use Rattle.model_core.specs.declared.limits.TheConstants.{MOST_TEXT_BYTES}
use Rattle.model_reader.specs.Readings.{ModelOf, Reading, ReadingLaws, if_short-laws}
use Rattle.text_fields.specs.Causes.{code_name}
use Rattle.text_fields.specs.Checks.{Checked}
use Rattle.shop_text.specs.ShopTexts.{top, said_model, shop_of_text, shop_text, too_long}

abbrev pub shop_texts : Reading
shop_texts = record { read = shop_text; code_name = code_name }

-- a text without bytes is no shop
says_nothing : (model : ModelOf) → said_model [] ≡ Ok model → ⊥
unfolding top is_utf8 chars parse_document lines skip_bom skip_from skip_ws
says_nothing model reads =
    let IsRead : Checked ModelOf → Type 0 = λ r. IsOk r in
    let clash : ◌≡◌ {A = Bool} false true = subst IsRead (sym reads) refl in
    let none : ⊥ = cc in
    none

pub shop_texts_laws : ReadingLaws shop_text
unfolding shop_text
shop_texts_laws = if_short-laws too_long said_model says_nothing

-- a text that is too long is so by its first 1,048,577 bytes, so that what comes after them does not matter
pub shop_of_text-take : (bytes : List ℕ) → shop_of_text (take (MOST_TEXT_BYTES + 1) bytes) ≡ shop_of_text bytes
unfolding shop_of_text
shop_of_text-take bytes = by_length (ltb MOST_TEXT_BYTES (length bytes)) refl
  where
    long : ltb MOST_TEXT_BYTES (length bytes) ≡ true → ltb MOST_TEXT_BYTES (length (take (MOST_TEXT_BYTES + 1) bytes)) ≡ true
    long h = lt-ltb _ _ (omega (arith, ltb-true _ _ h, length-take (MOST_TEXT_BYTES + 1) bytes))

    by_length : (b : Bool) → ltb MOST_TEXT_BYTES (length bytes) ≡ b → shop_of_text (take (MOST_TEXT_BYTES + 1) bytes) ≡ shop_of_text bytes
    by_length true h = rw (long h, h) refl
    by_length false h = ap shop_of_text (take_all (MOST_TEXT_BYTES + 1) bytes (omega (arith, ltb-false _ _ h)))
