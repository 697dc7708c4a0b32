-- What a program over a reader of models writes, what it notes, and the status with which it ends.
use Rattle.std.specs.Prelude.{ℕ, ◌+◌, nat_le, Bool, true, false, List, [], ◌++◌, length, is_err, is_ok, Result, Ok, Err, String, codes, decimal}
use Rattle.std.specs.declared.alloc.Global.{Global}
use Rattle.model_reader.specs.Checks.{Checked}
use Rattle.model_reader.specs.Readings.{ModelOf, Reading}
use Rattle.sim_spec.specs.State.{State, initial_state}
use Rattle.sim_spec.specs.Run.{run}
use Rattle.sim_spec.specs.Cycles.{cycles_for}
use Rattle.sim_io.specs.declared.streams.reading.TheConstants.{ENOUGH_BYTES}
use Rattle.sim_io.specs.declared.words.WordFault.{WordFault}
use Rattle.sim_io.specs.declared.words.WordFault.TheVariants.{UnknownCommand}
use Rattle.sim_io.specs.declared.words.Settings.{Settings}
use Rattle.sim_io.specs.Words.{model_settings, texts_of}
use Rattle.sim_text.specs.declared.telling.Telling.{Telling}
use Rattle.sim_text.specs.WholeTexts.{text_from, first_lines}
use Rattle.run_save.specs.Causes.{state_code_name}
use Rattle.run_save.specs.Checks as states
use Rattle.run_save.specs.SavedStates.{SavedState, state_of}
use Rattle.run_save.specs.StateTexts.{state_text}
use Rattle.run_save.specs.declared.reading.TheConstants.{MOST_STATE_BYTES}
use Rattle.program_answers.specs.Answer.{Answer, Asked, answer_to_fault, answer_to_refusal, status_of_stop}
use Rattle.program_answers.specs.declared.status.TheConstants.{END, STATE}

-- the line for a saved state that is refused: the code and what it is called, and the line where it was met
unfoldable pub state_line : ℕ → ℕ → List ℕ
state_line code line = codes "state: " ++ (decimal code ++ (codes " " ++ (state_code_name code ++ (codes " line " ++ (decimal line ++ codes "\n")))))

-- what a command tells of a simulation: the commands of saved states tell its events
abbrev pub telling_of : Settings → Telling
telling_of (Settings.Run nodes ahead placement cycles workers moves) = Telling.Lines cycles
telling_of (Settings.One cycles) = Telling.Lines cycles
telling_of Settings.Totals = Telling.Totals
telling_of (Settings.Demo n) = Telling.Demo n
telling_of (Settings.Save c) = Telling.Lines false
telling_of Settings.Resume = Telling.Lines false

-- the answer where a simulation runs from a state until it stops: what is to be told of it, whatever runs it
abbrev pub answer_from : Telling → ModelOf → State → Answer
answer_from telling model s = record {
  output = text_from model.meaning model.terms model.totals telling s;
  notes = [];
  status = status_of_stop (run model.meaning model.terms s).stop;
}

abbrev pub answer_of_run : Settings → ModelOf → Answer
answer_of_run chosen model = answer_from (telling_of chosen) model (initial_state model.meaning)

-- the answer that writes the text of a state with the bytes of its model, unless the text is too long
abbrev pub answer_with_text : List ℕ → Bool → Answer
answer_with_text text true = record { output = text; notes = []; status = END }
answer_with_text text false = record { output = []; notes = state_line 1 0; status = STATE }

unfoldable pub answer_of_state : State → List ℕ → Answer
answer_of_state s bytes = answer_with_text (state_text s bytes) (nat_le (length (state_text s bytes)) MOST_STATE_BYTES)

-- the answer where a simulation is saved after its first cycles: their records, and the text of the state after them
unfoldable pub answer_of_save : ℕ → List ℕ → ModelOf → Answer
answer_of_save c bytes model =
    let start = initial_state model.meaning in
    let saved = answer_of_state (cycles_for c model.meaning model.terms start).last bytes in
    record saved { output = first_lines model.meaning model.terms c start ++ saved.output }

-- the answer of a command to a model, of which these are the bytes
abbrev pub answer_of_model : Settings → List ℕ → ModelOf → Answer
answer_of_model (Settings.Save c) bytes model = answer_of_save c bytes model
answer_of_model chosen bytes model = answer_of_run chosen model

-- the answer to a saved state that was read, or refused: its simulation goes on
unfoldable pub answer_to_state : states.Checked SavedState → Answer
answer_to_state (Err refused) = record { output = []; notes = state_line refused.code refused.line; status = STATE }
answer_to_state (Ok saved) = answer_from (Telling.Lines false) saved.model saved.state

-- how many bytes of the input a command takes at most: one more than a model or a saved state may have, and none for a demo
abbrev pub most_taken : Settings → ℕ
most_taken (Settings.Demo n) = 0
most_taken Settings.Resume = MOST_STATE_BYTES + 1
most_taken chosen = ENOUGH_BYTES

-- whether the input is read: if the words are accepted, but for a demo
abbrev pub takes_input : Result Settings WordFault → Bool
takes_input (Err fault) = false
takes_input (Ok (Settings.Demo n)) = false
takes_input (Ok chosen) = true

-- how many bytes of it
abbrev pub most_read : Result Settings WordFault → ℕ
most_read (Err fault) = 0
most_read (Ok chosen) = most_taken chosen

-- the words are accepted, and the input is, by what each command accepts
abbrev pub accepted : (Settings → List ℕ → Bool) → Result Settings WordFault → List ℕ → Bool
accepted accepts (Err fault) bytes = false
accepted accepts (Ok chosen) bytes = accepts chosen bytes

-- the answer to words that set this or are refused, by what each command answers
unfoldable pub answered : (Settings → List ℕ → Answer) → Result Settings WordFault → List ℕ → Answer
answered answers (Err fault) bytes = answer_to_fault fault
answered answers (Ok chosen) bytes = answers chosen bytes

-- what such words ask for
abbrev pub asked : (Settings → List ℕ → Bool) → (Settings → List ℕ → Answer) → Result Settings WordFault → Asked
asked accepts answers said =
    record { refused = is_err said; takes = takes_input said; most = most_read said; accepts = accepted accepts said; answer = answered answers said }

module _ (reading : Reading) where
  -- the answer to a model that was read, or refused
  unfoldable pub answer_to_model : Settings → List ℕ → Checked ModelOf → Answer
  answer_to_model chosen bytes (Err refused) = answer_to_refusal refused.code (reading.code_name refused.code) refused.item
  answer_to_model chosen bytes (Ok model) = answer_of_model chosen bytes model

  -- the answer of a command to the bytes of the input: a demo is none of its commands
  abbrev pub answer_of_command : Settings → List ℕ → Answer
  answer_of_command (Settings.Demo n) bytes = answer_to_fault UnknownCommand
  answer_of_command Settings.Resume bytes = answer_to_state (state_of reading.read bytes)
  answer_of_command chosen bytes = answer_to_model chosen bytes (reading.read bytes)

  -- the input is what the command asks for: a model or a saved state
  abbrev pub accepts_input : Settings → List ℕ → Bool
  accepts_input (Settings.Demo n) bytes = false
  accepts_input Settings.Resume bytes = is_ok (state_of reading.read bytes)
  accepts_input chosen bytes = is_ok (reading.read bytes)

  -- the answer to words and to the bytes of the input
  abbrev pub answer : List (List ℕ) → List ℕ → Answer
  answer words = answered answer_of_command (model_settings words)

  -- what words ask for
  abbrev pub asked_by : List (String Global) → Asked
  asked_by words = asked accepts_input answer_of_command (model_settings (texts_of words))
