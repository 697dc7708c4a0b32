-- Why a state text is refused: the code of each cause, and what codes are called.
use Rattle.std.specs.Prelude.{ℕ, ◌==◌, List, [], codes, if◌then◌else◌}
use Rattle.run_save.specs.declared.refusal.StateCause.{StateCause}
use Rattle.run_save.specs.declared.refusal.StateCause.TheVariants.{TooLong, BadLine, BadModel, Unlawful}

abbrev pub cause_code : StateCause → ℕ
cause_code TooLong = 1
cause_code BadLine = 2
cause_code BadModel = 3
cause_code Unlawful = 4

-- what a code is called, or nothing if no refusal has it
abbrev pub state_code_name : ℕ → List ℕ
state_code_name code =
    if code == 1 then codes "TooLong"
    else if code == 2 then codes "BadLine"
    else if code == 3 then codes "BadModel"
    else if code == 4 then codes "Unlawful"
    else []
