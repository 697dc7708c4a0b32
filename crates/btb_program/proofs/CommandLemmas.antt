-- A command other than a demo does what it does in any program over a reader.
use Rattle.std.proofs.Common.{◌≡◌, ℕ, refl}
use Rattle.model_text.specs.Readers.{model_texts}
use Rattle.sim_io.specs.declared.streams.sink.Sink.{Ghosts as Sink}
use Rattle.sim_io.specs.declared.streams.source.Source.{Ghosts as Source}
use Rattle.sim_io.specs.declared.words.Settings.{Settings}
use Rattle.program_answers.specs.declared.ending.Ending.{Ending}
use Rattle.program_answers.specs.Answered.{EndsInput}
use Rattle.model_program.specs.Answer as models
use Rattle.btb_program.specs.Answer.{answer_of_command}

module _ {S K : Type 0} (source : Source S) (sink : Sink K) (from to : S) (old new : K) (ending : Ending) where
  pub as_any : (s : Settings) → ((n : ℕ) → s ≡ Settings.Demo n → ⊥) → EndsInput source sink from to old new ending (models.most_taken s) (models.answer_of_command model_texts s)
      → EndsInput source sink from to old new ending (models.most_taken s) (answer_of_command s)
  as_any (Settings.Run nodes ahead placement cycles workers moves) no_demo ends = ends
  as_any (Settings.One cycles) no_demo ends = ends
  as_any Settings.Totals no_demo ends = ends
  as_any (Settings.Demo n) no_demo ends = absurd (no_demo n refl)
  as_any (Settings.Save c) no_demo ends = ends
  as_any Settings.Resume no_demo ends = ends
