-- The ending of the table that the words ask for is theirs, and refused words are answered by their line.
use Rattle.std.proofs.Common.{sym, ap, ◌∙◌, refl}
use Rattle.std.specs.Prelude.{is_err, is_ok}
use Rattle.replications.specs.ReplicateWords.{replicate_settings}
use Rattle.sim_io.specs.Words.{texts_of}
use Rattle.program_answers.proofs.InputLemmas.{input_ends, refused_ends}
use Rattle.table_program.proofs.AnswerLemmas.{answer_accepted, answer_refused}
use Rattle.table_program.proofs.running.run_words.Goals as goal

pub returns-in-Ok-clause-ends : goal.returns-in-Ok-clause-ends
returns-in-Ok-clause-ends g c =
    let texts = texts_of c.args.words.now in
    let said = ap (λ start. replicate_settings start texts) (sym c.window_start.ensures) ∙ sym c.read_replicate_words.ensures.settings ∙ c.in-Ok.is in
    input_ends _ _ _ (ap (λ r. is_err r) said) _ _ _ _ _ _ _ c.tabulate_input.ensures.ends (ap (λ r. is_ok r) said) refl
    (answer_accepted _ _ c.in-Ok.asked said)

pub returns-in-Err-clause-ends : goal.returns-in-Err-clause-ends
returns-in-Err-clause-ends g c =
    let texts = texts_of c.args.words.now in
    let said =
    ap (λ start. replicate_settings start texts) (sym c.window_start.ensures) ∙ sym c.read_replicate_words.ensures.settings ∙ c.in-Err.is in
    refused_ends _ _ _ _ _ c.in-Err.fault (ap (λ r. is_err r) said) (ap (λ r. is_ok r) said) (answer_refused _ _ c.in-Err.fault said)
