-- What a text describes: a model under any seed, and what a table says of its runs.
use Rattle.std.specs.Prelude.{◌≡◌, ℕ, ◌+◌, List, take}
use Rattle.model_core.specs.Meaning.{Meaning}
use Rattle.model_core.specs.declared.limits.TheConstants.{MOST_TEXT_BYTES}
use Rattle.model_reader.specs.Checks.{Checked}
use Rattle.replications.specs.declared.words.WindowStart.{WindowStart}
use Rattle.replications.specs.Ends.{RowsOf}
use Rattle.sim_spec.specs.declared.terms.Terms.{Terms}
use Rattle.table_program.specs.declared.family.Family.{Family}

-- what its model means under each seed, what its rows are then, the seed that it gives, and how far its simulation goes
pub record FamilyOf : Type 0 where
  pub under : ℕ → Meaning
  pub rows : ℕ → RowsOf
  pub seed : ℕ
  pub terms : Terms

-- which bytes are which models, or which refusal, what the codes of refusals are called, the head line of a table, and where
-- it is said from which tick on is counted
pub record FamilyReading : Type 0 where
  pub read : List ℕ → Checked FamilyOf
  pub code_name : ℕ → List ℕ
  pub head : List ℕ
  pub start : WindowStart

-- of a text that is too long, what comes after one byte more plays no part
pub record FamilyLaws (read : List ℕ → Checked FamilyOf) : Type 0 where
  pub first_bytes : (bytes : List ℕ) → read (take (MOST_TEXT_BYTES + 1) bytes) ≡ read bytes

-- what was read of a text, as it is described
module _ {S : Type 0} (seeded : S → ℕ → Meaning) (rows : S → ℕ → RowsOf) where
  abbrev pub family_read : Family S → FamilyOf
  family_read family = record { under = seeded family.models; rows = rows family.models; seed = family.seed; terms = family.terms }
