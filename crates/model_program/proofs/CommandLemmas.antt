-- What commands read and tell.
use Rattle.std.proofs.Common.{◌≡◌, ℕ, true, List, Ok, refl}
use Rattle.model_reader.specs.Readings.{ModelOf, Reading}
use Rattle.sim_io.specs.declared.streams.reading.TheConstants.{ENOUGH_BYTES}
use Rattle.sim_io.specs.declared.streams.sink.Sink.{Ghosts as Sink}
use Rattle.sim_io.specs.declared.streams.source.Source.{Ghosts as Source}
use Rattle.sim_io.specs.declared.words.Settings.{Settings}
use Rattle.program_answers.specs.declared.ending.Ending.{Ending}
use Rattle.program_answers.specs.Answered.{EndsInput}
use Rattle.model_program.specs.Answer.{answer_of_command, answer_of_model, answer_of_run, answer_to_model, most_taken, takes_input}

-- a command other than a demo reads its input
pub takes_some : (s : Settings) → ((n : ℕ) → s ≡ Settings.Demo n → ⊥) → takes_input (Ok s) ≡ true
takes_some (Settings.Run nodes ahead placement cycles workers moves) no_demo = refl
takes_some (Settings.One cycles) no_demo = refl
takes_some Settings.Totals no_demo = refl
takes_some (Settings.Demo n) no_demo = absurd (no_demo n refl)
takes_some (Settings.Save c) no_demo = refl
takes_some Settings.Resume no_demo = refl

-- and other than one that goes on from a saved state, it reads a model
module _ (reading : Reading) {S K : Type 0} (source : Source S) (sink : Sink K) (from to : S) (old new : K) (ending : Ending) where
  abbrev pub Ends : Settings → Type 0
  Ends s = EndsInput source sink from to old new ending (most_taken s) (answer_of_command reading s)

  pub reads_model : (s : Settings) → ((n : ℕ) → s ≡ Settings.Demo n → ⊥) → (s ≡ Settings.Resume → ⊥)
      → EndsInput source sink from to old new ending ENOUGH_BYTES (λ bytes. answer_to_model reading s bytes (reading.read bytes)) → Ends s
  reads_model (Settings.Run nodes ahead placement cycles workers moves) no_demo no_resume ends = ends
  reads_model (Settings.One cycles) no_demo no_resume ends = ends
  reads_model Settings.Totals no_demo no_resume ends = ends
  reads_model (Settings.Demo n) no_demo no_resume ends = absurd (no_demo n refl)
  reads_model (Settings.Save c) no_demo no_resume ends = ends
  reads_model Settings.Resume no_demo no_resume ends = absurd (no_resume refl)

-- a command other than one that saves tells of a run
pub tells_run : (s : Settings) (bytes : List ℕ) (model : ModelOf) → ((c : ℕ) → s ≡ Settings.Save c → ⊥) → answer_of_model s bytes model ≡ answer_of_run s model
tells_run (Settings.Run nodes ahead placement cycles workers moves) bytes model no_save = refl
tells_run (Settings.One cycles) bytes model no_save = refl
tells_run Settings.Totals bytes model no_save = refl
tells_run (Settings.Demo n) bytes model no_save = refl
tells_run (Settings.Save c) bytes model no_save = absurd (no_save c refl)
tells_run Settings.Resume bytes model no_save = refl
