-- The texts that `replicate` reads: models under any seed, and the windows of their objects.
use Rattle.std.specs.Prelude.{◌≡◌, ℕ, ◌+◌, List, take, Ok, codes}
use Rattle.std.proofs.Common.{ap}
use Rattle.model_core.specs.declared.limits.TheConstants.{MOST_TEXT_BYTES}
use Rattle.text_fields.specs.Causes.{code_name}
use Rattle.text_fields.specs.Checks.{Checked, ◌>>=◌}
use Rattle.model_text.specs.ModelTexts.{family_of, FamilyOf as TextFamily}
use Rattle.model_text.specs.Readers.{family_of-take}
use Rattle.replications.specs.declared.words.WindowStart.TheVariants.{Words}
use Rattle.replications.specs.Rows.{window_rows}
use Rattle.table_program.specs.Families.{FamilyOf, FamilyLaws, FamilyReading}

-- a model that was read, with the windows of its objects as rows
abbrev pub with_windows : TextFamily → FamilyOf
with_windows family = record { under = family.under; rows = λ seed. window_rows (family.under seed); seed = family.seed; terms = family.terms }

abbrev pub windows_read : Checked TextFamily → Checked FamilyOf
windows_read read = read >>= (λ family. Ok (with_windows family))

unfoldable pub windows_of_text : List ℕ → Checked FamilyOf
windows_of_text bytes = windows_read (family_of bytes)

abbrev pub replicate_texts : FamilyReading
replicate_texts = record {
  read = windows_of_text;
  code_name = code_name;
  head = codes "seed,object,arrivals,served,lost,busy,waiting,age,longest,ticks,events,stop\n";
  start = Words;
}

windows-taken : (bytes : List ℕ) → windows_of_text (take (MOST_TEXT_BYTES + 1) bytes) ≡ windows_of_text bytes
unfolding windows_of_text
windows-taken bytes = ap windows_read (family_of-take bytes)

pub replicate_laws : FamilyLaws windows_of_text
replicate_laws = record { first_bytes = windows-taken }
