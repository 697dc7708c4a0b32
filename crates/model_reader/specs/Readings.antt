-- What a reader of models means, and the laws that each reader keeps.
use Rattle.std.specs.Prelude.{◌≡◌, ℕ, ◌+◌, ◌<◌, ◌≤◌, Bool, true, false, List, [], ◌∷◌, length, take, Ok, Err, nat_lt, if◌then◌else◌, refl}
use Rattle.std.proofs.Common.{ltb, ltb-true, lt-ltb, ap, arith}
use Rattle.std.proofs.lemmas.Bool.{ltb-false}
use Rattle.std.proofs.lemmas.List.{take_all, length-take}
use Rattle.model_core.specs.Meaning.{Meaning}
use Rattle.model_core.specs.declared.limits.TheConstants.{MOST_TEXT_BYTES}
use Rattle.sim_spec.specs.declared.terms.Terms.{Terms}
use Rattle.run_tally.specs.Tallies.{TotalsOf}
use Rattle.model_reader.specs.Checks.{Checked, Refused}

-- a model, how far its simulation goes, and how its totals are told
pub record ModelOf : Type 0 where
  pub meaning : Meaning
  pub terms : Terms
  pub totals : TotalsOf

-- a model that was read with these terms, by what it means and how its totals are told
abbrev pub as_read : {M : Type 0} → (M → Meaning) → (M → Terms → TotalsOf) → M → Terms → ModelOf
as_read meaning_of lines_of model terms = record { meaning = meaning_of model; terms = terms; totals = lines_of model terms }

-- which bytes are which model, or which refusal, and what the codes of refusals are called
pub record Reading : Type 0 where
  pub read : List ℕ → Checked ModelOf
  pub code_name : ℕ → List ℕ

-- a text that is read has some bytes, and at most 1,048,576; of a longer one, what comes after one byte more plays no part
pub record ReadingLaws (read : List ℕ → Checked ModelOf) : Type 0 where
  pub some_bytes : (bytes : List ℕ) (model : ModelOf) → read bytes ≡ Ok model → 0 < length bytes
  pub few_bytes : (bytes : List ℕ) (model : ModelOf) → read bytes ≡ Ok model → length bytes ≤ MOST_TEXT_BYTES
  pub first_bytes : (bytes : List ℕ) → read (take (MOST_TEXT_BYTES + 1) bytes) ≡ read bytes

-- what the same bytes were read as twice is the same
abbrev pub ReadsOnce : (List ℕ → Checked ModelOf) → Type 0
ReadsOnce read = (bytes : List ℕ) (one other : Checked ModelOf) → read bytes ≡ one → read bytes ≡ other → one ≡ other

-- how most readers begin: a text that is too long is refused, whatever it says
module _ (too_long : Refused) (said : List ℕ → Checked ModelOf) where
  abbrev pub if_short : List ℕ → Checked ModelOf
  if_short bytes = if nat_lt MOST_TEXT_BYTES (length bytes) then Err too_long else said bytes

  long-taken : (bytes : List ℕ) → ltb MOST_TEXT_BYTES (length bytes) ≡ true → ltb MOST_TEXT_BYTES (length (take (MOST_TEXT_BYTES + 1) bytes)) ≡ true
  long-taken bytes long = lt-ltb _ _ (omega (arith, ltb-true _ _ long, length-take (MOST_TEXT_BYTES + 1) bytes))

  first_bytes-short : (bytes : List ℕ) (b : Bool) → ltb MOST_TEXT_BYTES (length bytes) ≡ b → if_short (take (MOST_TEXT_BYTES + 1) bytes) ≡ if_short bytes
  first_bytes-short bytes true long = rw (long-taken bytes long, long) refl
  first_bytes-short bytes false short = ap if_short (take_all (MOST_TEXT_BYTES + 1) bytes (omega (arith, ltb-false _ _ short)))

  long-refused : (bytes : List ℕ) (model : ModelOf) → ltb MOST_TEXT_BYTES (length bytes) ≡ true → if_short bytes ≡ Ok model → ⊥
  long-refused bytes model long = rw long (λ (clash : ◌≡◌ {A = Checked ModelOf} (Err too_long) (Ok model)). let none : ⊥ = cc in none)

  few_bytes-short : (bytes : List ℕ) (model : ModelOf) (b : Bool) → ltb MOST_TEXT_BYTES (length bytes) ≡ b → if_short bytes ≡ Ok model → length bytes ≤ MOST_TEXT_BYTES
  few_bytes-short bytes model true long reads = absurd (long-refused bytes model long reads)
  few_bytes-short bytes model false short reads = omega (arith, ltb-false _ _ short)

  some_bytes-short : ((model : ModelOf) → said [] ≡ Ok model → ⊥) → (bytes : List ℕ) (model : ModelOf) → if_short bytes ≡ Ok model → 0 < length bytes
  some_bytes-short none [] model reads = absurd (none model reads)
  some_bytes-short none (byte ∷ rest) model reads = omega arith

  -- such a reader keeps the laws if it refuses the text without bytes
  pub if_short-laws : ((model : ModelOf) → said [] ≡ Ok model → ⊥) → ReadingLaws if_short
  if_short-laws none = record {
    some_bytes = some_bytes-short none;
    few_bytes = λ bytes model. few_bytes-short bytes model (ltb MOST_TEXT_BYTES (length bytes)) refl;
    first_bytes = λ bytes. first_bytes-short bytes (ltb MOST_TEXT_BYTES (length bytes)) refl;
  }
