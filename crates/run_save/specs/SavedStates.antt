-- The saved state of a text: the checks in the order in which the first refusal counts.
use Rattle.std.specs.Prelude.{ℕ, nat_le, List, length, Ok, Err}
use Rattle.sim_spec.specs.State.{State}
use Rattle.model_reader.specs.Checks as models
use Rattle.model_reader.specs.Readings.{ModelOf}
use Rattle.run_save.specs.declared.refusal.StateCause.TheVariants.{TooLong, BadModel}
use Rattle.run_save.specs.declared.reading.TheConstants.{MOST_STATE_BYTES}
use Rattle.run_save.specs.Checks.{Checked, refusal, wanted, ◌>>=◌}
use Rattle.run_save.specs.Lines.{Draft, whole_text}
use Rattle.run_save.specs.LawfulChecks.{lawful_check}

-- a model that was read, and a state of it
pub record SavedState : Type 0 where
  pub model : ModelOf
  pub state : State

-- a model that is refused is refused at its line
abbrev pub read_at : ℕ → models.Checked ModelOf → Checked ModelOf
read_at line (Ok read) = Ok read
read_at line (Err refused) = refusal BadModel line

-- over the models that a reader reads
module _ (model_of : List ℕ → models.Checked ModelOf) where
  -- what a text says, with the model that its bytes say
  unfoldable pub judged : Draft → Checked SavedState
  judged draft = do
    read ← read_at draft.line (model_of draft.model)
    lawful ← lawful_check read.meaning read.terms draft.state
    Ok (record { model = read; state = draft.state })

  -- the saved state of a text, or the code and line of the first check that fails
  unfoldable pub state_of : List ℕ → Checked SavedState
  state_of bytes = do
    short ← wanted (nat_le (length bytes) MOST_STATE_BYTES) TooLong 0
    draft ← whole_text (record { bytes = bytes; line = 1 })
    judged draft
