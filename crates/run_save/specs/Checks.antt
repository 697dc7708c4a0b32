-- A check gives a value, or the code and line of the first refusal that it meets.
use Rattle.std.specs.Prelude.{ℕ, Bool, true, false, Option, Some, None, Result, Ok, Err}
pub use Rattle.model_reader.specs.Checks.{◌>>=◌}
use Rattle.model_reader.specs.Checks.{FailsWith, GivesBy}
use Rattle.run_save.specs.declared.refusal.StateCause.{StateCause}
use Rattle.run_save.specs.declared.refusal.StateRefusal.{StateRefusal}
use Rattle.run_save.specs.declared.refusal.StateRefusal.TheVariants.{At, OutOfMemory}
use Rattle.run_save.specs.Causes.{cause_code}

-- why and where a state text is refused
pub record Refused : Type 0 where
  pub code : ℕ
  pub line : ℕ

abbrev pub Checked : Type 0 → Type 0
Checked A = Result A Refused

-- the refusal of a cause at a line
abbrev pub refusal : {A : Type 0} → StateCause → ℕ → Checked A
refusal cause line = Err (record { code = cause_code cause; line = line })

-- a refusal unless the test is met
abbrev pub wanted : Bool → StateCause → ℕ → Checked (Unit {0})
wanted true cause line = Ok tt
wanted false cause line = refusal cause line

abbrev pub refused_by : StateRefusal → Option Refused
refused_by OutOfMemory = None
refused_by (At code line) = Some (record { code = code; line = line })

-- the check refuses in the same way, unless memory ran out
abbrev pub Fails : {Y : Type 0} → StateRefusal → Checked Y → Type 0
Fails refusal check = FailsWith (refused_by refusal) check

-- what a function returned, seen by a view, is what the check gives, unless memory ran out
abbrev pub Gives : {X Y : Type 0} → (X → Y) → Result X StateRefusal → Checked Y → Type 0
Gives view result check = GivesBy refused_by view result check
