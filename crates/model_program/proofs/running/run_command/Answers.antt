-- A command reads a model, or goes on from a saved state.
use Rattle.std.proofs.Common.{Ok, sym, subst}
use Rattle.std.specs.Prelude.{IfSome}
use Rattle.sim_io.specs.declared.words.Settings.{Settings}
use Rattle.program_answers.specs.Endings.{status_of_ending}
use Rattle.program_answers.proofs.InputLemmas.{some_all}
use Rattle.model_program.specs.SavedRuns.{IsSavedSo}
use Rattle.model_program.proofs.CommandLemmas.{Ends, reads_model}
use Rattle.model_program.proofs.running.run_command.Goals as goal

pub returns-in-Resume-clause-answer : goal.returns-in-Resume-clause-answer
returns-in-Resume-clause-answer g c =
    subst (λ (s : Settings). Ends g.T.ModelReader.reading g.S.Source g.K.Sink c.args.source.now c.resume_command.new.source c.args.out.now c.resume_command.new.out c.resume_command.result s) (sym c.in-Resume.is) c.resume_command.ensures

pub returns-in-Resume-clause-saved : goal.returns-in-Resume-clause-saved
returns-in-Resume-clause-saved g c =
    subst (λ (s : Settings). IfSome (g.S.Source.left c.args.source.now) (IsSavedSo g.T.ModelReader.reading.read (Ok s) (status_of_ending c.resume_command.result))) (sym c.in-Resume.is)
    (some_all _ (λ bytes. tt))

pub returns-in_default-clause-answer : goal.returns-in_default-clause-answer
returns-in_default-clause-answer g c =
    reads_model g.T.ModelReader.reading g.S.Source g.K.Sink _ _ _ _ _ c.args.settings c.requires.no_demo c.in_default.not-Resume c.model_command.ensures.answer
