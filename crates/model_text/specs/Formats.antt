-- The format of a text, which says what it may have: a later format adds to those before it.
use Rattle.std.specs.Prelude.{◌==◌, pos, Bool, true, false, Ok, if◌then◌else◌}
use Rattle.toml.specs.Data.{Data, integer}
use Rattle.model_text.specs.declared.formats.Format.{Format}
use Rattle.model_text.specs.declared.formats.Format.TheVariants.{One, Two}
use Rattle.text_fields.specs.declared.refusal.Cause.TheVariants.{BadValue}
use Rattle.text_fields.specs.Checks.{Checked, refusal}

-- circuits came with the second format
abbrev pub has_circuits : Format → Bool
has_circuits One = false
has_circuits Two = true

abbrev pub format_of : Data → Checked Format
format_of (integer (pos n)) = if n == 1 then Ok One else if n == 2 then Ok Two else refusal BadValue 0
format_of _ = refusal BadValue 0
