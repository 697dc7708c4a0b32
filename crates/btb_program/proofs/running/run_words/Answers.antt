-- The ending of a command is the ending of the words that ask for it, and refused words are answered by their line.
use Rattle.std.proofs.Common.{Ok, refl, sym, ap, ◌∙◌}
use Rattle.model_text.specs.ModelTexts.{model_of}
use Rattle.sim_io.specs.declared.words.Settings.{Settings}
use Rattle.program_answers.proofs.InputLemmas.{some_all}
use Rattle.model_program.proofs.CommandLemmas.{takes_some}
use Rattle.model_program.proofs.InputLemmas.{asked_input, asked_model, asked_refused, refused_saves, saves_asked}
use Rattle.btb_program.specs.Answer.{accepts_input, answer_of_command}
use Rattle.btb_program.proofs.CommandLemmas.{as_any}
use Rattle.btb_program.proofs.running.run_words.Goals as goal

pub returns-in-Err-clause-ends : goal.returns-in-Err-clause-ends
returns-in-Err-clause-ends g c = asked_refused accepts_input answer_of_command _ g.S.Source g.K.Sink c.in-Err.fault (sym c.read_words.ensures.value ∙ c.in-Err.is) _ _

pub returns-in-Err-clause-saved : goal.returns-in-Err-clause-saved
returns-in-Err-clause-saved g c = refused_saves model_of _ _ _ c.in-Err.fault (sym c.read_words.ensures.value ∙ c.in-Err.is)

pub returns-in-Demo-clause-ends : goal.returns-in-Demo-clause-ends
returns-in-Demo-clause-ends g c =
    let said = sym c.read_words.ensures.value ∙ c.in-Ok.is ∙ ap (λ (s : Settings). Ok s) c.in-Demo.is in
    asked_model accepts_input answer_of_command _ g.S.Source g.K.Sink (Settings.Demo c.in-Demo.n) said _ _ _ _ _ c.run_demo.ensures refl (λ bytes. refl)

pub returns-in-Demo-clause-saved : goal.returns-in-Demo-clause-saved
returns-in-Demo-clause-saved g c =
    let said = sym c.read_words.ensures.value ∙ c.in-Ok.is ∙ ap (λ (s : Settings). Ok s) c.in-Demo.is in
    saves_asked model_of _ _ _ (Settings.Demo c.in-Demo.n) said (some_all _ (λ bytes. tt))

pub returns-in_default-clause-ends : goal.returns-in_default-clause-ends
returns-in_default-clause-ends g c =
    let chosen = c.in-Ok.settings in
    let no_demo = c.in_default.not-Demo in
    asked_input accepts_input answer_of_command _ g.S.Source g.K.Sink chosen (sym c.read_words.ensures.value ∙ c.in-Ok.is)
    _ _ _ _ _ (as_any _ _ _ _ _ _ _ chosen no_demo c.run_command.ensures.answer) (takes_some chosen no_demo)

pub returns-in_default-clause-saved : goal.returns-in_default-clause-saved
returns-in_default-clause-saved g c = saves_asked model_of _ _ _ c.in-Ok.settings (sym c.read_words.ensures.value ∙ c.in-Ok.is) c.run_command.ensures.saved
