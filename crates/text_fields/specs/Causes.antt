-- Why a model text is refused: the code of each cause, and what codes are called.
use Rattle.std.specs.Prelude.{ℕ, ◌==◌, List, [], codes, if◌then◌else◌}
use Rattle.text_fields.specs.declared.refusal.Cause.{Cause}
use Rattle.text_fields.specs.declared.refusal.Cause.TheVariants.{TooLong, NotToml, Missing, Unknown, BadValue, BadLink, Limit}

abbrev pub cause_code : Cause → ℕ
cause_code TooLong = 1
cause_code NotToml = 2
cause_code Missing = 3
cause_code Unknown = 4
cause_code BadValue = 5
cause_code BadLink = 6
cause_code Limit = 7

-- what a code is called, or nothing if no refusal has it
abbrev pub code_name : ℕ → List ℕ
code_name code =
    if code == 1 then codes "TooLong"
    else if code == 2 then codes "NotToml"
    else if code == 3 then codes "Missing"
    else if code == 4 then codes "Unknown"
    else if code == 5 then codes "BadValue"
    else if code == 6 then codes "BadLink"
    else if code == 7 then codes "Limit"
    else []
