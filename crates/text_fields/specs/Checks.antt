-- A check gives a value, or the code and item of the first refusal that it meets: the refusals of these texts.
use Rattle.std.specs.Prelude.{ℕ, Bool, true, false, Ok, Err}
pub use Rattle.model_reader.specs.Checks.{Checked, Fails, FailsWith, Gives, GivesBy, Refused, refused_by, ◌>>=◌}
use Rattle.text_fields.specs.declared.refusal.Cause.{Cause}
use Rattle.text_fields.specs.Causes.{cause_code}

-- the refusal of a cause at an item
abbrev pub refusal : {A : Type 0} → Cause → ℕ → Checked A
refusal cause at = Err (record { code = cause_code cause; item = at })

-- a refusal where the test is met
abbrev pub refusal_where : Bool → Cause → ℕ → Checked (Unit {0})
refusal_where true cause at = refusal cause at
refusal_where false cause at = Ok tt
