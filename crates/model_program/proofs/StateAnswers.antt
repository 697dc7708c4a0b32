-- What is answered if a simulation is saved: its records, and the text of its state, unless that is too long.
use Rattle.std.proofs.Common.{◌≡◌, ◌≢◌, ◌<◌, ◌≤◌, ℕ, List, [], ◌++◌, length, true, false, Result, Ok, Err, refl, sym, ap, ◌∙◌, subst, append-nil, le-leb}
use Rattle.std.specs.Prelude.{is_err, OnOk}
use Rattle.std.proofs.lemmas.Bool.{lt-leb}
use Rattle.sim_io.proofs.TakenLemmas.{Appends-trans}
use Rattle.model_core.specs.Meaning.{Meaning}
use Rattle.sim_spec.specs.declared.terms.Terms.{Terms}
use Rattle.sim_spec.specs.State.{State, initial_state}
use Rattle.run_tally.specs.Tallies.{TotalsOf}
use Rattle.sim_io.specs.declared.streams.sink.Sink.{Ghosts as Sink}
use Rattle.sim_io.specs.Causes.{Rose}
use Rattle.sim_io.proofs.TransferLemmas.{AppendsPrefix-next, prefix_longer}
use Rattle.sim_text.specs.declared.unfinished.Unfinished.{Unfinished}
use Rattle.sim_text.specs.WholeTexts.{first_lines}
use Rattle.model_program.specs.Handed.{HandsOn}
use Rattle.model_program.specs.Saved.{HasSaved}
use Rattle.run_save.specs.StateTexts.{state_text}
use Rattle.run_save.specs.declared.reading.TheConstants.{MOST_STATE_BYTES}
use Rattle.program_answers.specs.declared.ending.Ending.{Ending}
use Rattle.model_program.specs.Answer.{answer_of_save, answer_of_state, answer_with_text}
use Rattle.program_answers.specs.Answered.{EndsModel}
use Rattle.program_answers.specs.Endings.{ending_of_cause, status_of_ending}
use Rattle.program_answers.specs.declared.status.TheConstants.{END}
use Rattle.program_answers.proofs.EndingLemmas.{write_fault_ends, no_memory_ends}

module _ (s : State) (bytes : List ℕ) where
  pub too_long : MOST_STATE_BYTES < length (state_text s bytes) → answer_of_state s bytes ≡ answer_with_text (state_text s bytes) false
  unfolding answer_of_state
  too_long long = ap (answer_with_text (state_text s bytes)) (lt-leb _ _ long)

  pub short_enough : length (state_text s bytes) ≤ MOST_STATE_BYTES → answer_of_state s bytes ≡ answer_with_text (state_text s bytes) true
  unfolding answer_of_state
  short_enough short = ap (answer_with_text (state_text s bytes)) (le-leb _ _ short)

-- what holds of no error holds
pub on_no_error : {T E : Type 0} (r : Result T E) (P : Type 0) → false ≡ is_err r → OnOk r P → P
on_no_error (Ok x) P none holds = holds
on_no_error (Err e) P none holds = absurd (let clash = none in cc)

-- a simulation that is unfinished has no end
pub unfinished_status : (cause : Unfinished) (ending : Ending) → ending ≡ ending_of_cause cause → status_of_ending ending ≢ END
unfinished_status Unfinished.WriteFault ending same is = let clash : ⊥ = let both = sym (ap status_of_ending same) ∙ is in cc in clash
unfinished_status Unfinished.OutOfMemory ending same is = let clash : ⊥ = let both = sym (ap status_of_ending same) ∙ is in cc in clash

-- what was put into nothing
pub put_first : (before after text : List ℕ) → before ≡ [] → after ≡ before ++ text → after ≡ text
put_first before after text empty put = put ∙ ap (λ xs. xs ++ text) empty

module _ {K : Type 0} (sink : Sink K) (m : Meaning) (t : Terms) (totals : TotalsOf) (cycles : ℕ) (bytes : List ℕ) where
  -- the records were written, and then what is written of the state
  pub saved_ends : (old mid new : K) (state : State) (ending : Ending) → HasSaved sink old mid (Ok state) m t cycles → HandsOn {T = State} sink mid (Ok state) → EndsModel sink mid new ending (answer_of_state state bytes)
      → EndsModel sink old new ending (answer_of_save cycles bytes (record { meaning = m; terms = t; totals = totals }))
  unfolding answer_of_save
  saved_ends old mid new state ending saved handed then =
      let ends = subst (λ (s : State). EndsModel sink mid new ending (answer_of_state s bytes)) saved.state then in
      let lines : List ℕ = first_lines m t cycles (initial_state m) in
      let whole = saved.written.text.whole in
      let quiet = saved.written.faults.quiet in
      record {
        answer = record {
          given = record {
            output = λ done. Appends-trans _ _ _ lines _ whole (ends.answer.given.output done);
            same_status = ends.answer.given.same_status;
            prefix = AppendsPrefix-next _ _ _ lines _ [] _ whole ends.answer.given.prefix (ap (λ xs. lines ++ xs) (sym (append-nil _)));
          };
          line = ends.answer.line;
        };
        writing = record {
          write_fault = λ is. subst (λ n. Rose n (sink.faults new)) quiet (ends.writing.write_fault is);
          write_quiet = λ other. ends.writing.write_quiet other ∙ quiet;
          handed = λ other _. ends.writing.handed other handed.whole;
        };
        no_words = ends.no_words;
        no_read_fault = ends.no_read_fault;
      }

  -- they weren't all written
  pub unsaved_ends : (old new : K) (cause : Unfinished) → HasSaved sink old new (Err cause) m t cycles → HandsOn {T = State} sink new (Err cause)
      → EndsModel sink old new (ending_of_cause cause) (answer_of_save cycles bytes (record { meaning = m; terms = t; totals = totals }))
  unfolding answer_of_save
  unsaved_ends old new Unfinished.WriteFault saved handed = write_fault_ends sink old new _ (prefix_longer _ _ _ _ saved.written.text.prefix) (saved.written.faults.fault refl)
  unsaved_ends old new Unfinished.OutOfMemory saved handed =
      no_memory_ends sink old new _ (prefix_longer _ _ _ _ saved.written.text.prefix) (saved.written.faults.no_memory refl) (λ _. handed.no_memory refl)
