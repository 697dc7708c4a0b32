-- The text of the state, unless it is too long: that is told then.
use Rattle.std.proofs.Common.{◌≡◌, ℕ, List, true, length, refl, sym, ap, ◌∙◌, subst, arith}
use Rattle.sim_io.specs.Taken.{Appends}
use Rattle.sim_io.specs.Transfers.{AppendsPrefix}
use Rattle.run_save.specs.StateTexts.{state_text}
use Rattle.program_answers.specs.declared.ending.Ending.{Ending}
use Rattle.program_answers.specs.declared.status.TheConstants.{STATE}
use Rattle.program_answers.specs.Answer.{Answer}
use Rattle.model_program.specs.Answer.{answer_with_text, state_line}
use Rattle.program_answers.specs.Answered.{EndsModel}
use Rattle.program_answers.specs.Endings.{IsRefusal}
use Rattle.program_answers.proofs.EndingLemmas.{no_memory_left, refusal_ends, whole_ends, write_fault_ends, state_status, end_status}
use Rattle.model_program.proofs.SavedRunsLaw.{refused_none}
use Rattle.model_program.proofs.StateAnswers.{too_long, short_enough, on_no_error, put_first}
use Rattle.model_program.proofs.saving.write_state.Goals as goal

pub returns-then-is_err-clause-answer : goal.returns-then-is_err-clause-answer
returns-then-is_err-clause-answer g c = no_memory_left _ _ _

pub returns-then-len-gt-MOST_STATE_BYTES-clause-answer : goal.returns-then-len-gt-MOST_STATE_BYTES-clause-answer
returns-then-len-gt-MOST_STATE_BYTES-clause-answer g c =
    let text : c.put_state.new.into.items ≡ state_text c.args.state.now c.args.bytes.now =
    put_first _ _ _ c.new-text.ensures.items (on_no_error c.put_state.result _ c.if-is_err.ensures.value c.put_state.ensures.ok) in
    let is = sym (too_long c.args.state.now c.args.bytes.now (omega (arith, ap length text, c.len.ensures, c.if-len-gt-MOST_STATE_BYTES.true))) in
    let refusal = subst (λ n. IsRefusal STATE (state_line n 0) c.refused_state.result) c.code.ensures c.refused_state.ensures in
    subst (λ (a : Answer). EndsModel g.K.Sink c.args.out.now c.args.out.now c.refused_state.result a) is (refusal_ends _ _ STATE (state_line 1 0) c.refused_state.result refusal state_status)

pub returns-in-Ok-clause-answer : goal.returns-in-Ok-clause-answer
returns-in-Ok-clause-answer g c =
    let text : c.put_state.new.into.items ≡ state_text c.args.state.now c.args.bytes.now =
    put_first _ _ _ c.new-text.ensures.items (on_no_error c.put_state.result _ c.if-is_err.ensures.value c.put_state.ensures.ok) in
    let is = sym (short_enough c.args.state.now c.args.bytes.now (omega (arith, ap length text, c.len.ensures, c.if-len-gt-MOST_STATE_BYTES.false))) in
    let Writes : List ℕ → Type 0 = Appends (g.K.Sink.told c.args.out.now) (g.K.Sink.told c.hand_out.new.out) in
    let all = subst Writes (c.as_slice.ensures.value ∙ text) c.in-Ok.ensures.all in
    subst (λ (a : Answer). EndsModel g.K.Sink c.args.out.now c.hand_out.new.out Ending.Saved a) is
    (whole_ends _ _ _ Ending.Saved (answer_with_text (state_text c.args.state.now c.args.bytes.now) true) end_status all refl refl c.in-Ok.ensures.quiet (λ _. c.in-Ok.ensures.handed))

pub returns-clause-answer : goal.returns-clause-answer
returns-clause-answer g c =
    let text : c.put_state.new.into.items ≡ state_text c.args.state.now c.args.bytes.now =
    put_first _ _ _ c.new-text.ensures.items (on_no_error c.put_state.result _ c.if-is_err.ensures.value c.put_state.ensures.ok) in
    let is = sym (short_enough c.args.state.now c.args.bytes.now (omega (arith, ap length text, c.len.ensures, c.if-len-gt-MOST_STATE_BYTES.false))) in
    let Writes : List ℕ → Type 0 = AppendsPrefix (g.K.Sink.told c.args.out.now) (g.K.Sink.told c.hand_out.new.out) in
    let part = subst Writes (c.as_slice.ensures.value ∙ text) c.hand_out.ensures.prefix in
    subst (λ (a : Answer). EndsModel g.K.Sink c.args.out.now c.hand_out.new.out Ending.WriteFault a) is
    (write_fault_ends _ _ _ (answer_with_text (state_text c.args.state.now c.args.bytes.now) true) part c.in-Err.ensures.cause.failed)

pub returns-then-is_err-clause-fits : goal.returns-then-is_err-clause-fits
returns-then-is_err-clause-fits g c = λ is. absurd (let clash : ⊥ = cc in clash)

pub returns-then-is_err-clause-short : goal.returns-then-is_err-clause-short
returns-then-is_err-clause-short g c = λ is. absurd (let clash : ⊥ = cc in clash)

pub returns-then-len-gt-MOST_STATE_BYTES-clause-fits : goal.returns-then-len-gt-MOST_STATE_BYTES-clause-fits
returns-then-len-gt-MOST_STATE_BYTES-clause-fits g c = λ is. absurd (refused_none STATE _ _ (λ same. cc) c.refused_state.ensures is)

pub returns-then-len-gt-MOST_STATE_BYTES-clause-short : goal.returns-then-len-gt-MOST_STATE_BYTES-clause-short
returns-then-len-gt-MOST_STATE_BYTES-clause-short g c = λ is. absurd (refused_none STATE _ _ (λ same. cc) c.refused_state.ensures is)

pub returns-in-Ok-clause-fits : goal.returns-in-Ok-clause-fits
returns-in-Ok-clause-fits g c = λ _. on_no_error c.put_state.result _ c.if-is_err.ensures.value c.put_state.ensures.fits

pub returns-in-Ok-clause-short : goal.returns-in-Ok-clause-short
returns-in-Ok-clause-short g c = λ _.
    let text : c.put_state.new.into.items ≡ state_text c.args.state.now c.args.bytes.now =
    put_first _ _ _ c.new-text.ensures.items (on_no_error c.put_state.result _ c.if-is_err.ensures.value c.put_state.ensures.ok) in
    omega (arith, ap length text, c.len.ensures, c.if-len-gt-MOST_STATE_BYTES.false)

pub returns-clause-fits : goal.returns-clause-fits
returns-clause-fits g c = λ is. absurd (let clash : ⊥ = cc in clash)

pub returns-clause-short : goal.returns-clause-short
returns-clause-short g c = λ is. absurd (let clash : ⊥ = cc in clash)
