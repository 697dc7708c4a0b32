-- The records, and then what is written of the state.
use Rattle.std.proofs.Common.{◌≤◌, length, sym, subst}
use Rattle.sim_spec.specs.State.{State}
use Rattle.run_save.specs.SavedLaws.{FitsTypes}
use Rattle.run_save.specs.StateTexts.{state_text}
use Rattle.run_save.specs.declared.reading.TheConstants.{MOST_STATE_BYTES}
use Rattle.model_reader.specs.Readings.{as_read}
use Rattle.model_program.specs.Answer.{answer_of_save}
use Rattle.program_answers.specs.Answered.{EndsModel}
use Rattle.model_program.proofs.StateAnswers.{saved_ends, unsaved_ends, unfinished_status}
use Rattle.model_program.proofs.saving.save_to_the_end.Goals as goal

pub returns-in-Ok-clause-answer : goal.returns-in-Ok-clause-answer
returns-in-Ok-clause-answer g c = saved_ends _ _ _ _ _ _ _ _ _ _ _ c.in-Ok.ensures.saved c.in-Ok.ensures.handed c.write_state.ensures.answer

pub returns-in-Ok-clause-saved : goal.returns-in-Ok-clause-saved
returns-in-Ok-clause-saved g c = λ is.
    let same = c.in-Ok.ensures.saved.state in
    let fits = subst FitsTypes same (c.write_state.ensures.fits is) in
    let short = subst (λ (s : State). length (state_text s c.args.bytes.now) ≤ MOST_STATE_BYTES) same (c.write_state.ensures.short is) in
    record {
      model = as_read g.T.Model.Model.meaning g.T.Tally.Tally.lines c.args.model c.args.terms;
      reads = c.requires.read;
      goes_on = c.law_saved_runs.ensures (g.T.Tally.Tally.lines c.args.model c.args.terms) c.args.cycles c.args.bytes.now c.requires.read fits short;
    }

pub returns-in-Err-clause-answer : goal.returns-in-Err-clause-answer
returns-in-Err-clause-answer g c =
    subst (λ ending. EndsModel g.K.Sink c.args.out.now c.save_model.new.out ending (answer_of_save c.args.cycles c.args.bytes.now (as_read g.T.Model.Model.meaning g.T.Tally.Tally.lines c.args.model c.args.terms))) (sym c.from.ensures)
    (unsaved_ends _ _ _ _ _ _ _ _ c.in-Err.cause c.in-Err.ensures.saved c.in-Err.ensures.handed)

pub returns-in-Err-clause-saved : goal.returns-in-Err-clause-saved
returns-in-Err-clause-saved g c = λ is. absurd (unfinished_status c.in-Err.cause _ c.from.ensures is)
