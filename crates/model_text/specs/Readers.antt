-- The reader of these texts, and that it keeps the laws of readers.
use Rattle.std.specs.Prelude.{◌≡◌, ℕ, ◌+◌, ◌<◌, ◌≤◌, Bool, true, false, List, [], ◌∷◌, length, take, Ok, IsOk, refl}
use Rattle.std.specs.Str.{is_utf8, chars}
use Rattle.std.proofs.Common.{ltb, ltb-true, lt-ltb, sym, ap, subst, arith}
use Rattle.std.proofs.lemmas.Bool.{ltb-false}
use Rattle.std.proofs.lemmas.List.{take_all, length-take}
use Rattle.toml.specs.Parse.{parse_document, lines, skip_bom}
use Rattle.toml_parser.specs.Lexical.{skip_from, skip_ws}
use Rattle.model_core.specs.declared.limits.TheConstants.{MOST_TEXT_BYTES}
use Rattle.model_reader.specs.Readings.{ModelOf, Reading, ReadingLaws}
use Rattle.text_fields.specs.Causes.{code_name}
use Rattle.text_fields.specs.Checks.{Checked}
use Rattle.model_text.specs.ModelTexts.{top, family_of, own_models, model_of}

abbrev pub model_texts : Reading
model_texts = record { read = model_of; code_name = code_name }

-- a text that is too long is so by its first 1,048,577 bytes, so that what comes after them does not matter
pub family_of-take : (bytes : List ℕ) → family_of (take (MOST_TEXT_BYTES + 1) bytes) ≡ family_of bytes
unfolding family_of
family_of-take bytes = by_length (ltb MOST_TEXT_BYTES (length bytes)) refl
  where
    long : ltb MOST_TEXT_BYTES (length bytes) ≡ true → ltb MOST_TEXT_BYTES (length (take (MOST_TEXT_BYTES + 1) bytes)) ≡ true
    long h = lt-ltb _ _ (omega (arith, ltb-true _ _ h, length-take (MOST_TEXT_BYTES + 1) bytes))

    by_length : (b : Bool) → ltb MOST_TEXT_BYTES (length bytes) ≡ b → family_of (take (MOST_TEXT_BYTES + 1) bytes) ≡ family_of bytes
    by_length true h = rw (long h, h) refl
    by_length false h = ap family_of (take_all (MOST_TEXT_BYTES + 1) bytes (omega (arith, ltb-false _ _ h)))

model_of-take : (bytes : List ℕ) → model_of (take (MOST_TEXT_BYTES + 1) bytes) ≡ model_of bytes
unfolding model_of
model_of-take bytes = ap own_models (family_of-take bytes)

-- a text that is too long is no model
long_refused : (bytes : List ℕ) → ltb MOST_TEXT_BYTES (length bytes) ≡ true → IsOk (model_of bytes) → ⊥
unfolding family_of model_of
long_refused bytes long = rw long (λ (clash : ◌≡◌ {A = Bool} false true). let none : ⊥ = cc in none)

-- so one that is read has at most as many bytes as a text may have
few_bytes : (bytes : List ℕ) (model : ModelOf) → model_of bytes ≡ Ok model → length bytes ≤ MOST_TEXT_BYTES
few_bytes bytes model reads = by_length (ltb MOST_TEXT_BYTES (length bytes)) refl
  where
    by_length : (b : Bool) → ltb MOST_TEXT_BYTES (length bytes) ≡ b → length bytes ≤ MOST_TEXT_BYTES
    by_length true long =
        let IsRead : Checked ModelOf → Type 0 = λ r. IsOk r in
        absurd (long_refused bytes long (subst IsRead (sym reads) refl))
    by_length false short = omega (arith, ltb-false _ _ short)

-- and some
some_bytes : (bytes : List ℕ) (model : ModelOf) → model_of bytes ≡ Ok model → 0 < length bytes
unfolding family_of model_of top is_utf8 chars parse_document lines skip_bom skip_from skip_ws
some_bytes [] model reads =
    let IsRead : Checked ModelOf → Type 0 = λ r. IsOk r in
    let clash : ◌≡◌ {A = Bool} false true = subst IsRead (sym reads) refl in
    absurd (let none : ⊥ = cc in none)
some_bytes (byte ∷ rest) model reads = omega arith

pub model_texts_laws : ReadingLaws model_of
model_texts_laws = record { some_bytes = some_bytes; few_bytes = few_bytes; first_bytes = model_of-take }
