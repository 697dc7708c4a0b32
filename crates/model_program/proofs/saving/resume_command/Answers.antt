-- What is answered to the state that was read is the answer to the input, and a refused one is answered by its line.
use Rattle.std.proofs.Common.{◌≡◌, ◌+◌, ℕ, Err, refl, ap, ◌∙◌, subst}
use Rattle.run_save.specs.Checks.{Fails}
use Rattle.run_save.specs.SavedStates.{state_of}
use Rattle.run_save.specs.declared.reading.TheConstants.{MOST_STATE_BYTES}
use Rattle.run_save.specs.declared.refusal.StateRefusal.{StateRefusal}
use Rattle.program_answers.specs.declared.ending.Ending.{Ending}
use Rattle.program_answers.specs.declared.status.TheConstants.{STATE}
use Rattle.model_program.specs.Answer.{answer_to_state, state_line}
use Rattle.program_answers.specs.Endings.{IsRefusal}
use Rattle.program_answers.proofs.EndingLemmas.{refusal_ends, state_status}
use Rattle.model_program.proofs.EndingLemmas.{lines_simulated, run_ends}
use Rattle.program_answers.proofs.InputLemmas.{leaves_rest, model_input, no_memory_input, unread_input}
use Rattle.model_program.proofs.ReadingLemmas.{slice_state_answers, state_answers}
use Rattle.model_program.proofs.saving.resume_command.Goals as goal

same_state_refusal : (ending : Ending) (code code' line line' : ℕ) → IsRefusal STATE (state_line code line) ending → code ≡ code' → line ≡ line' → IsRefusal STATE (state_line code' line') ending
same_state_refusal ending code code' line line' refusal same_code same_place =
    subst (λ told. IsRefusal STATE told ending) (ap (λ n. state_line n line) same_code ∙ ap (state_line code') same_place) refusal

pub returns-in-Err : goal.returns-in-Err
returns-in-Err g c = unread_input _ _ _ _ _ _ _ _ _ c.from.ensures (λ is. c.in-Err.ensures.failed (ap Err is)) (λ is. c.in-Err.ensures.no_memory (ap Err is))

pub returns-in-Ok-read_state : goal.returns-in-Ok-read_state
unfolding answer_to_state
returns-in-Ok-read_state g c =
    model_input _ _ _ _ _ _ _ _ _ _ (run_ends _ _ _ _ _ _ _ _ _ _ _ (lines_simulated _ _ _ _ _ _ (g.T.Tally.Tally.lines _ _) _ _ _ c.resume_model.ensures.simulated) c.resume_model.ensures.handed c.ending_of.ensures refl)
    (state_answers g.T.ModelReader.reading g.met.T.ModelReader.laws _ _ _ _ _ c.in-Ok.ensures.all c.as_slice.ensures.value c.in-Ok-read_state.ensures.exact)
    c.in-Ok.ensures.quiet (leaves_rest (MOST_STATE_BYTES + 1) _ _ _ c.in-Ok.ensures.all) _ (record { gave = c.in-Ok.ensures.gave; enough = c.in-Ok.ensures.enough })
    (slice_state_answers g.T.ModelReader.reading g.met.T.ModelReader.laws _ _ _ c.as_slice.ensures.value c.in-Ok-read_state.ensures.exact)

pub returns-in-Err-At : goal.returns-in-Err-At
unfolding answer_to_state
returns-in-Err-At g c =
    let P : StateRefusal → Type 0 = λ refusal. Fails refusal (state_of g.T.ModelReader.reading.read c.as_slice.result.now) in
    let refused : state_of g.T.ModelReader.reading.read c.as_slice.result.now ≡ Err (record { code = c.in-Err-At.code; line = c.in-Err-At.line }) = subst P c.in-Err-At.field-0-is c.in-Err-At.ensures.exact in
    model_input _ _ _ _ _ _ _ _ _ _ (refusal_ends _ _ STATE _ _ (same_state_refusal _ _ _ _ _ c.refused_state.ensures c.in-Err-At.code-is c.in-Err-At.line-is) state_status)
    (state_answers g.T.ModelReader.reading g.met.T.ModelReader.laws _ _ _ _ _ c.in-Ok.ensures.all c.as_slice.ensures.value refused)
    c.in-Ok.ensures.quiet (leaves_rest (MOST_STATE_BYTES + 1) _ _ _ c.in-Ok.ensures.all) _ (record { gave = c.in-Ok.ensures.gave; enough = c.in-Ok.ensures.enough })
    (slice_state_answers g.T.ModelReader.reading g.met.T.ModelReader.laws _ _ _ c.as_slice.ensures.value refused)

pub returns : goal.returns
returns g c = no_memory_input _ _ _ _ _ _ _ c.in-Ok.ensures.quiet
