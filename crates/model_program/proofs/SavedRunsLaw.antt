-- A simulation that is saved goes on as if it had not been.
use Rattle.std.proofs.Common.{◌≡◌, ◌≢◌, ℕ, false, List, ◌++◌, length, take, Option, Some, None, Ok, inl, inr, refl, sym, ap, ◌∙◌, subst, arith}
use Rattle.std.specs.Prelude.{IfSome}
use Rattle.std.proofs.lemmas.List.{take_all, length-take}
use Rattle.model_core.specs.Meaning.{MeaningLaws}
use Rattle.model_reader.specs.Checks as models
use Rattle.model_reader.specs.Readings.{ModelOf, ReadingLaws}
use Rattle.sim_spec.specs.declared.stop.Stop.{Stop}
use Rattle.sim_spec.specs.State.{Lawful, initial_state}
use Rattle.sim_io.specs.declared.streams.reading.TheConstants.{ENOUGH_BYTES}
use Rattle.sim_io.specs.declared.words.Settings.{Settings}
use Rattle.sim_io.specs.Transfers.{TakesUpTo}
use Rattle.sim_text.specs.declared.telling.Telling.{Telling}
use Rattle.sim_text.specs.WholeTexts.{text_from, first_lines, GoesOnAfterCycles}
use Rattle.run_save.specs.Checks as states
use Rattle.run_save.specs.SavedLaws.{WrittenIsRead, saved_with}
use Rattle.run_save.specs.SavedStates.{SavedState, state_of}
use Rattle.run_save.specs.StateTexts.{state_text}
use Rattle.program_answers.specs.declared.ending.Ending.{Ending}
use Rattle.program_answers.specs.declared.status.TheConstants.{END}
use Rattle.program_answers.specs.Answer.{Answer, status_of_stop}
use Rattle.model_program.specs.Answer.{answer_from, answer_to_state}
use Rattle.sim_io.specs.declared.streams.reading.ReadEnd.{ReadEnd}
use Rattle.program_answers.specs.Endings.{status_of_ending, ending_of_read, IsRefusal}
use Rattle.model_program.specs.SavedRuns.{state_after, IsSavedSo, SavedRuns}

-- a refusal is no end
pub refused_none : (status : ℕ) (line : List ℕ) (ending : Ending) → status ≢ END → IsRefusal status line ending → status_of_ending ending ≢ END
refused_none status line ending other (inl spent) is = let clash : ⊥ = let same = sym (ap status_of_ending spent) ∙ is in cc in clash
refused_none status line ending other (inr told) is = other (sym told.0 ∙ is)

-- nor is a read that ended early
pub unread_none : (end : ReadEnd) (ending : Ending) → ending ≡ ending_of_read end → status_of_ending ending ≢ END
unread_none ReadEnd.Failed ending same is = let clash : ⊥ = let status = sym (ap status_of_ending same) ∙ is in cc in clash
unread_none ReadEnd.OutOfMemory ending same is = let clash : ⊥ = let status = sym (ap status_of_ending same) ∙ is in cc in clash

module _ (model_of : List ℕ → models.Checked ModelOf) where
  pub saved_runs : ReadingLaws model_of → (model : ModelOf) → MeaningLaws model.meaning → Lawful model.meaning model.terms (initial_state model.meaning) → GoesOnAfterCycles model.meaning model.terms
      → WrittenIsRead model_of → SavedRuns model_of model
  unfolding answer_to_state text_from
  saved_runs reads_some model laws lawful goes_on written c bytes reads fits short =
      let on = goes_on c (initial_state model.meaning) lawful in
      let read : state_of model_of (state_text (state_after c model) bytes) ≡ Ok (saved_with model (state_after c model)) = written (state_after c model) bytes model (record {
        reads = reads;
        some_bytes = reads_some.some_bytes bytes model reads;
        few_bytes = reads_some.few_bytes bytes model reads;
        few_objects = omega (arith, on.lawful.objects, laws.objects);
        lawful = on.lawful;
        fits = fits;
        short = short;
      }) in
      let answered : answer_to_state (state_of model_of (state_text (state_after c model) bytes)) ≡ answer_from (Telling.Lines false) model (state_after c model) =
      ap (λ (r : states.Checked SavedState). answer_to_state r) read in
      record {
        output = on.text ∙ ap (λ (a : Answer). first_lines model.meaning model.terms c (initial_state model.meaning) ++ a.output) (sym answered);
        status = ap (λ (s : Stop). status_of_stop s) on.stop ∙ ap (λ (a : Answer). a.status) (sym answered);
      }

  -- a command that ends with another status saved nothing
  pub not_saved : (chosen : Settings) (status : ℕ) (bytes : List ℕ) → status ≢ END → IsSavedSo model_of (Ok chosen) status bytes
  not_saved (Settings.Run nodes ahead placement cycles workers moves) status bytes other = tt
  not_saved (Settings.One cycles) status bytes other = tt
  not_saved Settings.Totals status bytes other = tt
  not_saved (Settings.Demo n) status bytes other = tt
  not_saved (Settings.Save c) status bytes other = λ is. absurd (other is)
  not_saved Settings.Resume status bytes other = tt

  -- so it is with a command that doesn't save
  pub saves_none : (chosen : Settings) (status : ℕ) (bytes : List ℕ) → ((c : ℕ) → chosen ≡ Settings.Save c → ⊥) → IsSavedSo model_of (Ok chosen) status bytes
  saves_none (Settings.Run nodes ahead placement cycles workers moves) status bytes no_save = tt
  saves_none (Settings.One cycles) status bytes no_save = tt
  saves_none Settings.Totals status bytes no_save = tt
  saves_none (Settings.Demo n) status bytes no_save = tt
  saves_none (Settings.Save c) status bytes no_save = absurd (no_save c refl)
  saves_none Settings.Resume status bytes no_save = tt

  -- what was read is the whole input, if it is a model
  pub whole_input : ReadingLaws model_of → (old new : Option (List ℕ)) (taken slice : List ℕ) (chosen : Settings) (status : ℕ) (read : ModelOf) → TakesUpTo ENOUGH_BYTES old new taken → slice ≡ taken → model_of slice ≡ Ok read
      → IsSavedSo model_of (Ok chosen) status slice → IfSome old (IsSavedSo model_of (Ok chosen) status)
  whole_input laws None new taken slice chosen status read took same reads saved = tt
  whole_input laws (Some bytes) None taken slice chosen status read took same reads saved = absurd took
  whole_input laws (Some bytes) (Some rest) taken slice chosen status read took same reads saved =
      let part : slice ≡ take ENOUGH_BYTES bytes = same ∙ took.0 in
      let short = laws.few_bytes slice read reads in
      let all : take ENOUGH_BYTES bytes ≡ bytes = take_all ENOUGH_BYTES bytes (omega (arith, short, ap length part, length-take ENOUGH_BYTES bytes)) in
      subst (IsSavedSo model_of (Ok chosen) status) (part ∙ all) saved

  -- nothing is saved, whatever is left
  pub none_left : (old : Option (List ℕ)) (chosen : Settings) (status : ℕ) → status ≢ END → IfSome old (IsSavedSo model_of (Ok chosen) status)
  none_left None chosen status other = tt
  none_left (Some bytes) chosen status other = not_saved chosen status bytes other
