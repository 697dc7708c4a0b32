-- A simulation that is saved goes on as if it had not been.
use Rattle.std.specs.Prelude.{ℕ, List, Result}
use Rattle.model_reader.specs.Readings.{ModelOf}
use Rattle.model_text.specs.ModelTexts.{model_of}
use Rattle.sim_io.specs.declared.words.Settings.{Settings}
use Rattle.sim_io.specs.declared.words.WordFault.{WordFault}
use Rattle.model_program.specs.SavedRuns as models

-- the records before a saved state, and what is told from its text on, are what is told of the whole run, with the same end, after any
-- number of cycles, if the types hold the numbers of the state and its text isn't too long
abbrev pub SavedRuns : ModelOf → Type 0
SavedRuns = models.SavedRuns model_of

-- so it is if a command that saves ends with its status
abbrev pub IsSavedSo : Result Settings WordFault → ℕ → List ℕ → Type 0
IsSavedSo = models.IsSavedSo model_of
