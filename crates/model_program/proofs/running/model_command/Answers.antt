-- What is answered to the model that was read is the answer to the input, and a refused model is answered by its line.
use Rattle.std.proofs.Common.{◌≡◌, Err, ap, ◌∙◌, subst}
use Rattle.sim_io.specs.declared.streams.reading.TheConstants.{ENOUGH_BYTES}
use Rattle.model_reader.specs.Checks.{Fails}
use Rattle.model_reader.specs.declared.refusal.Refusal.{Refusal}
use Rattle.program_answers.specs.declared.status.TheConstants.{MODEL}
use Rattle.model_program.specs.Answer.{answer_to_model}
use Rattle.program_answers.proofs.EndingLemmas.{model_status, refusal_ends, same_refusal}
use Rattle.program_answers.proofs.InputLemmas.{leaves_rest, model_input, no_memory_input, unread_input}
use Rattle.model_program.proofs.ReadingLemmas.{model_answers, slice_answers}
use Rattle.model_program.proofs.SavedRunsLaw.{none_left, refused_none, unread_none, whole_input}
use Rattle.model_program.proofs.running.model_command.Goals as goal

pub returns-in-Err-clause-answer : goal.returns-in-Err-clause-answer
returns-in-Err-clause-answer g c = unread_input _ _ _ _ _ _ _ _ _ c.from.ensures (λ is. c.in-Err.ensures.failed (ap Err is)) (λ is. c.in-Err.ensures.no_memory (ap Err is))

pub returns-in-Ok-read-clause-answer : goal.returns-in-Ok-read-clause-answer
unfolding answer_to_model
returns-in-Ok-read-clause-answer g c =
    model_input _ _ _ _ _ _ _ _ _ _ c.answer_model.ensures.answer
    (model_answers g.T.ModelReader.reading g.met.T.ModelReader.laws _ _ _ _ c.args.settings _ c.in-Ok.ensures.all c.as_slice-bytes.ensures.value c.in-Ok-read.ensures.read)
    c.in-Ok.ensures.quiet (leaves_rest ENOUGH_BYTES _ _ _ c.in-Ok.ensures.all) _ (record { gave = c.in-Ok.ensures.gave; enough = c.in-Ok.ensures.enough })
    (slice_answers g.T.ModelReader.reading g.met.T.ModelReader.laws _ _ c.args.settings _ c.as_slice-bytes.ensures.value c.in-Ok-read.ensures.read)

pub returns-in-Err-At-clause-answer : goal.returns-in-Err-At-clause-answer
unfolding answer_to_model
returns-in-Err-At-clause-answer g c =
    let P : Refusal → Type 0 = λ refusal. Fails refusal (g.T.ModelReader.reading.read c.as_slice-bytes.result.now) in
    let refused : g.T.ModelReader.reading.read c.as_slice-bytes.result.now ≡ Err (record { code = c.in-Err-At.code; item = c.in-Err-At.item }) = subst P c.in-Err-At.field-0-is c.in-Err-At.ensures.refused in
    model_input _ _ _ _ _ _ _ _ _ _ (refusal_ends _ _ MODEL _ _ (same_refusal _ _ _ _ _ _ _ c.refused.ensures c.in-Err-At.code-is (c.code_name.ensures ∙ ap g.T.ModelReader.reading.code_name c.in-Err-At.code-is) c.in-Err-At.item-is) model_status)
    (model_answers g.T.ModelReader.reading g.met.T.ModelReader.laws _ _ _ _ c.args.settings _ c.in-Ok.ensures.all c.as_slice-bytes.ensures.value refused)
    c.in-Ok.ensures.quiet (leaves_rest ENOUGH_BYTES _ _ _ c.in-Ok.ensures.all) _ (record { gave = c.in-Ok.ensures.gave; enough = c.in-Ok.ensures.enough })
    (slice_answers g.T.ModelReader.reading g.met.T.ModelReader.laws _ _ c.args.settings _ c.as_slice-bytes.ensures.value refused)

pub returns-clause-answer : goal.returns-clause-answer
returns-clause-answer g c = no_memory_input _ _ _ _ _ _ _ c.in-Ok.ensures.quiet

pub returns-in-Err-clause-saved : goal.returns-in-Err-clause-saved
returns-in-Err-clause-saved g c = none_left g.T.ModelReader.reading.read _ c.args.settings _ (unread_none c.in-Err.end _ c.from.ensures)

pub returns-in-Ok-read-clause-saved : goal.returns-in-Ok-read-clause-saved
returns-in-Ok-read-clause-saved g c =
    whole_input g.T.ModelReader.reading.read g.met.T.ModelReader.laws _ _ _ _ c.args.settings _ _ c.in-Ok.ensures.all c.as_slice-bytes.ensures.value c.in-Ok-read.ensures.read c.answer_model.ensures.saved

pub returns-in-Err-At-clause-saved : goal.returns-in-Err-At-clause-saved
returns-in-Err-At-clause-saved g c = none_left g.T.ModelReader.reading.read _ c.args.settings _ (refused_none MODEL _ _ (λ is. cc) c.refused.ensures)

pub returns-clause-saved : goal.returns-clause-saved
returns-clause-saved g c = none_left g.T.ModelReader.reading.read _ c.args.settings _ (λ is. cc)
