-- What is answered to the model that was read is the answer to the input, and a refused model is answered by its line.
use Rattle.std.proofs.Common.{◌≡◌, ◌≤◌, ℕ, List, Err, sym, ap, ◌∙◌, subst, arith}
use Rattle.sim_io.specs.declared.streams.reading.TheConstants.{ENOUGH_BYTES}
use Rattle.model_reader.specs.Checks.{Fails}
use Rattle.model_reader.specs.declared.refusal.Refusal.{Refusal}
use Rattle.program_answers.specs.declared.status.TheConstants.{EVENT_LIMIT, MODEL}
use Rattle.program_answers.specs.Answered.{EndsModel}
use Rattle.program_answers.specs.Endings.{status_of_ending}
use Rattle.program_answers.proofs.EndingLemmas.{model_status, refusal_ends, same_refusal}
use Rattle.program_answers.proofs.InputLemmas.{leaves_rest, model_input, no_memory_input, unread_input}
use Rattle.table_program.specs.Families.{family_read}
use Rattle.table_program.specs.TableAnswers.{answer_to_family, answer_to_read}
use Rattle.table_program.proofs.AnswerLemmas.{family_answers, known_read, known_refusal, slice_answers}
use Rattle.table_program.proofs.running.tabulate_input.Goals as goal

pub returns-in-Err-clause-ends : goal.returns-in-Err-clause-ends
returns-in-Err-clause-ends g c = unread_input _ _ _ _ _ _ _ _ _ c.from.ensures (λ is. c.in-Err.ensures.failed (ap Err is)) (λ is. c.in-Err.ensures.no_memory (ap Err is))

pub returns-in-Err-clause-known : goal.returns-in-Err-clause-known
returns-in-Err-clause-known g c = subst (λ ending. status_of_ending ending ≤ EVENT_LIMIT) (sym c.from.ensures) (known_read c.in-Err.end)

pub returns-in-Ok-read_family-clause-ends : goal.returns-in-Ok-read_family-clause-ends
unfolding answer_to_read
returns-in-Ok-read_family-clause-ends g c =
    let reading = g.T.FamilyReader.reading in
    let family = family_read g.T.Models.Seeds.seeded g.T.Models.Seeds.rows c.in-Ok-read_family.family in
    let Ends : List ℕ → Type 0 =
    λ head. EndsModel g.K.Sink c.args.out.now c.tabulate.new.out c.tabulate.result (answer_to_family head c.args.asked family) in
    model_input _ _ _ _ _ _ _ _ _ _ (subst Ends c.head.ensures c.tabulate.ensures.ends)
    (family_answers reading g.met.T.FamilyReader.laws _ _ _ _ c.args.asked _ c.in-Ok.ensures.all c.as_slice.ensures.value c.in-Ok-read_family.ensures.read)
    c.in-Ok.ensures.quiet (leaves_rest ENOUGH_BYTES _ _ _ c.in-Ok.ensures.all) _
    (record { gave = c.in-Ok.ensures.gave; enough = c.in-Ok.ensures.enough })
    (slice_answers reading _ _ c.args.asked _ c.as_slice.ensures.value c.in-Ok-read_family.ensures.read)

pub returns-in-Err-At-clause-ends : goal.returns-in-Err-At-clause-ends
unfolding answer_to_read
returns-in-Err-At-clause-ends g c =
    let reading = g.T.FamilyReader.reading in
    let P : Refusal → Type 0 = λ refusal. Fails refusal (reading.read c.as_slice.result.now) in
    let refused : reading.read c.as_slice.result.now ≡ Err (record { code = c.in-Err-At.code; item = c.in-Err-At.item }) =
    subst P c.in-Err-At.field-0-is c.in-Err-At.ensures.refused in
    model_input _ _ _ _ _ _ _ _ _ _
    (refusal_ends _ _ MODEL _ _ (same_refusal _ _ _ _ _ _ _ c.refused.ensures c.in-Err-At.code-is (c.code_name.ensures ∙ ap reading.code_name c.in-Err-At.code-is) c.in-Err-At.item-is) model_status)
    (family_answers reading g.met.T.FamilyReader.laws _ _ _ _ c.args.asked _ c.in-Ok.ensures.all c.as_slice.ensures.value refused)
    c.in-Ok.ensures.quiet (leaves_rest ENOUGH_BYTES _ _ _ c.in-Ok.ensures.all) _
    (record { gave = c.in-Ok.ensures.gave; enough = c.in-Ok.ensures.enough })
    (slice_answers reading _ _ c.args.asked _ c.as_slice.ensures.value refused)

pub returns-in-Err-At-clause-known : goal.returns-in-Err-At-clause-known
returns-in-Err-At-clause-known g c = known_refusal MODEL _ _ c.refused.ensures (omega arith)

pub returns-clause-ends : goal.returns-clause-ends
returns-clause-ends g c = no_memory_input _ _ _ _ _ _ _ c.in-Ok.ensures.quiet
