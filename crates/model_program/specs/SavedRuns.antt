-- A simulation that is saved goes on as if it had not been.
use Rattle.std.specs.Prelude.{◌≡◌, ◌≢◌, ◌<◌, ◌≤◌, ◌^◌, ℕ, List, ◌++◌, length, false, Result, Ok, codes}
use Rattle.event_key.specs.declared.key.Key.{Key}
use Rattle.model_core.specs.declared.note.Part.{Part}
use Rattle.model_core.specs.Meaning.{Meaning}
use Rattle.model_reader.specs.Checks.{Checked}
use Rattle.model_reader.specs.Readings.{ModelOf}
use Rattle.sim_spec.specs.State.{State, initial_state}
use Rattle.sim_spec.specs.Cycles.{cycles_for}
use Rattle.sim_io.specs.Texts.{part_line}
use Rattle.sim_text.specs.declared.telling.Telling.{Telling}
use Rattle.sim_text.specs.WholeTexts.{first_lines}
use Rattle.sim_io.specs.declared.words.Settings.{Settings}
use Rattle.sim_io.specs.declared.words.WordFault.{WordFault}
use Rattle.run_save.specs.declared.reading.TheConstants.{MOST_STATE_BYTES}
use Rattle.run_save.specs.SavedLaws.{FitsTypes}
use Rattle.run_save.specs.SavedStates.{state_of}
use Rattle.run_save.specs.StateTexts.{state_text}
use Rattle.program_answers.specs.declared.status.TheConstants.{END}
use Rattle.model_program.specs.Answer.{answer_from, answer_to_state}

-- the state after the first cycles of a model
abbrev pub state_after : ℕ → ModelOf → State
state_after c model = (cycles_for c model.meaning model.terms (initial_state model.meaning)).last

-- over the models that a reader reads
module _ (model_of : List ℕ → Checked ModelOf) where
  -- the records before a saved state, and what is told from its text on, are what is told of the whole run, with the same end
  pub record GoesOnFromText (model : ModelOf) (c : ℕ) (bytes : List ℕ) : Type 0 where
    pub output : (answer_from (Telling.Lines false) model (initial_state model.meaning)).output
        ≡ first_lines model.meaning model.terms c (initial_state model.meaning) ++ (answer_to_state (state_of model_of (state_text (state_after c model) bytes))).output
    pub status : (answer_from (Telling.Lines false) model (initial_state model.meaning)).status
        ≡ (answer_to_state (state_of model_of (state_text (state_after c model) bytes))).status

  -- so it is after any number of cycles, where the types hold the numbers of the state and its text isn't too long
  abbrev pub SavedRuns : ModelOf → Type 0
  SavedRuns model = (c : ℕ) (bytes : List ℕ) → model_of bytes ≡ Ok model → FitsTypes (state_after c model)
      → length (state_text (state_after c model) bytes) ≤ MOST_STATE_BYTES → GoesOnFromText model c bytes

  -- the bytes are those of a model, whose simulation is saved after so many cycles
  pub record IsSaved (c : ℕ) (bytes : List ℕ) : Type 0 where
    pub model : ModelOf
    pub reads : model_of bytes ≡ Ok model
    pub goes_on : GoesOnFromText model c bytes

  -- so it is if a command that saves ends with its status
  abbrev pub IsSavedSo : Result Settings WordFault → ℕ → List ℕ → Type 0
  IsSavedSo (Ok (Settings.Save c)) status bytes = status ≡ END → IsSaved c bytes
  IsSavedSo words status bytes = Unit {0}

-- no line of a record is the first line of a state: so the records end where that line stands
abbrev pub RecordsAreNoStates : Type 0
RecordsAreNoStates = (m : Meaning) (key : Key) (part : Part) → key.stamp < 2 ^ 64 → part_line m key part ≢ codes "state 1\n"
