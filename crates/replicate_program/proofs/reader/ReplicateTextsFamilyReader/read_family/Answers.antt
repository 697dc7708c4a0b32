use Rattle.std.proofs.Common.{◌∙◌, Ok, ap, sym}
use Rattle.model_text.specs.declared.model.AnyModel.{AnyModel}
use Rattle.model_text.specs.Meanings.{meaning_under}
use Rattle.replications.specs.Rows.{window_rows}
use Rattle.table_program.specs.Families.{FamilyOf}
use Rattle.replicate_program.specs.ReplicateTexts.{windows_of_text, windows_read}
use Rattle.replicate_program.proofs.reader.ReplicateTextsFamilyReader.read_family.Goals as goal

pub returns-clause-read : goal.returns-clause-read
unfolding windows_of_text
returns-clause-read c =
    let read = c.in_ok-read.read in
    let of : AnyModel → FamilyOf =
    λ model. record { under = λ seed. meaning_under seed model; rows = λ seed. window_rows (meaning_under seed model); seed = read.seed; terms = read.terms } in
    ap windows_read c.in_ok-read.ensures.read ∙ ap (λ (model : AnyModel). Ok (of model)) (sym c.in_ok-model.ensures.ok)
