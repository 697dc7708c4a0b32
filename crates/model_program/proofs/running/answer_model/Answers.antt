-- A command other than one that saves tells of a run.
use Rattle.std.proofs.Common.{Ok, sym, subst}
use Rattle.program_answers.specs.Answer.{Answer}
use Rattle.model_reader.specs.Readings.{as_read}
use Rattle.program_answers.specs.Answered.{EndsModel}
use Rattle.program_answers.specs.Endings.{status_of_ending}
use Rattle.model_program.specs.SavedRuns.{IsSavedSo}
use Rattle.model_program.proofs.EndingLemmas.{run_ends}
use Rattle.model_program.proofs.SavedRunsLaw.{saves_none}
use Rattle.model_program.proofs.CommandLemmas.{tells_run}
use Rattle.model_program.proofs.running.answer_model.Goals as goal

pub returns-in_default-clause-answer : goal.returns-in_default-clause-answer
returns-in_default-clause-answer g c =
    let ends = run_ends _ _ _ _ _ _ _ _ _ _ _ c.run_model.ensures.simulated c.run_model.ensures.handed c.ending_of.ensures c.telling_of.ensures in
    subst (λ (a : Answer). EndsModel g.K.Sink c.args.out.now c.run_model.new.out c.ending_of.result a)
    (sym (tells_run c.args.settings c.args.bytes.now (as_read g.T.Model.Model.meaning g.T.Tally.Tally.lines c.args.model c.args.terms) c.in_default.not-Save)) ends

pub returns-in_default-clause-saved : goal.returns-in_default-clause-saved
returns-in_default-clause-saved g c = saves_none g.T.ModelReader.reading.read c.args.settings _ _ c.in_default.not-Save

pub returns-in-Save-clause-saved : goal.returns-in-Save-clause-saved
returns-in-Save-clause-saved g c =
    subst (λ chosen. IsSavedSo g.T.ModelReader.reading.read (Ok chosen) (status_of_ending c.save_to_the_end.result) c.args.bytes.now) (sym c.in-Save.is) c.save_to_the_end.ensures.saved
