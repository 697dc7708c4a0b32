-- What words ask for, by what they set.
use Rattle.std.proofs.Common.{◌≡◌, ℕ, Bool, true, false, List, Option, Result, Ok, Err, refl, sym, subst}
use Rattle.std.specs.Prelude.{IfSome}
use Rattle.model_reader.specs.Checks.{Checked}
use Rattle.model_reader.specs.Readings.{ModelOf}
use Rattle.sim_io.specs.declared.streams.sink.Sink.{Ghosts as Sink}
use Rattle.sim_io.specs.declared.streams.source.Source.{Ghosts as Source}
use Rattle.sim_io.specs.declared.words.Settings.{Settings}
use Rattle.sim_io.specs.declared.words.WordFault.{WordFault}
use Rattle.program_answers.specs.declared.ending.Ending.{Ending}
use Rattle.program_answers.specs.declared.ending.Ending.TheVariants.{RefusedWords}
use Rattle.program_answers.specs.Answer.{Answer}
use Rattle.program_answers.specs.Answered.{EndsAsked, EndsInput, EndsModel}
use Rattle.program_answers.proofs.InputLemmas.{some_all, some_map, refused_ends, model_ends, input_ends}
use Rattle.model_program.specs.Answer.{answered, asked, most_taken, takes_input}
use Rattle.model_program.specs.SavedRuns.{IsSavedSo}

module _ (accepts : Settings → List ℕ → Bool) (answers : Settings → List ℕ → Answer) (said : Result Settings WordFault) {S K : Type 0} (source : Source S) (sink : Sink K) where
  abbrev Ends : S → S → K → K → Ending → Result Settings WordFault → Type 0
  Ends from to old new ending said = EndsAsked source sink from to old new ending (asked accepts answers said)

  -- they are refused
  pub asked_refused : (fault : WordFault) → said ≡ Err fault → (from : S) (out : K) → Ends from from out out (RefusedWords fault) said
  unfolding answered
  asked_refused fault is from out =
      subst (λ said. Ends from from out out (RefusedWords fault) said) (sym is) (refused_ends source sink (asked accepts answers (Err fault)) from out fault refl refl (λ bytes. refl))

  -- they set a command that reads nothing, or one that reads its input
  module _ (chosen : Settings) (is : said ≡ Ok chosen) where
    pub asked_model : (from : S) (old new : K) (ending : Ending) (a : Answer) → EndsModel sink old new ending a → takes_input (Ok chosen) ≡ false → ((bytes : List ℕ) → a ≡ answers chosen bytes)
        → Ends from from old new ending said
    unfolding answered
    asked_model from old new ending a ends takes same =
        subst (λ said. Ends from from old new ending said) (sym is) (model_ends source sink (asked accepts answers (Ok chosen)) refl from old new ending a ends takes same)

    pub asked_input : (from to : S) (old new : K) (ending : Ending) → EndsInput source sink from to old new ending (most_taken chosen) (answers chosen) → takes_input (Ok chosen) ≡ true
        → Ends from to old new ending said
    unfolding answered
    asked_input from to old new ending ends takes =
        subst (λ said. Ends from to old new ending said) (sym is)
        (input_ends source sink (asked accepts answers (Ok chosen)) refl from to old new ending (most_taken chosen) (answers chosen) ends takes refl (λ bytes. refl))

module _ (model_of : List ℕ → Checked ModelOf) (said : Result Settings WordFault) (left : Option (List ℕ)) (status : ℕ) where
  -- refused words save nothing
  pub refused_saves : (fault : WordFault) → said ≡ Err fault → IfSome left (IsSavedSo model_of said status)
  refused_saves fault is = some_all left (λ bytes. subst (λ r. IsSavedSo model_of r status bytes) (sym is) tt)

  pub saves_asked : (chosen : Settings) → said ≡ Ok chosen → IfSome left (IsSavedSo model_of (Ok chosen) status) → IfSome left (IsSavedSo model_of said status)
  saves_asked chosen is saved = some_map left (λ bytes so. subst (λ r. IsSavedSo model_of r status bytes) (sym is) so) saved
