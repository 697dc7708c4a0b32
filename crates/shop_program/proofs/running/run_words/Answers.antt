-- Words that begin with `replicate` ask for a table, and others for what any program over a reader does.
use Rattle.std.proofs.Common.{◌≡◌, ℕ, List, Some, None, Option, String, sym, ap, ◌∙◌, subst}
use Rattle.std.specs.Prelude.{option_map}
use Rattle.std.specs.declared.alloc.Global.{Global}
use Rattle.sim_io.specs.Words.{texts_of}
use Rattle.program_answers.specs.Answered.{EndsAsked}
use Rattle.model_program.proofs.InputLemmas.{refused_saves}
use Rattle.sim_io.specs.declared.words.WordFault.TheVariants.{UnknownCommand}
use Rattle.shop_text.specs.ShopTexts.{shop_text}
use Rattle.shop_program.specs.Answer.{after_replicate, asked_with}
use Rattle.shop_program.proofs.CommandLemmas.{no_model_command}
use Rattle.shop_program.proofs.running.run_words.Goals as goal

pub returns-in-Some-clause-ends : goal.returns-in-Some-clause-ends
returns-in-Some-clause-ends g c =
    let words = texts_of c.args.words.now.items in
    let said : after_replicate words ≡ Some (texts_of c.in-Some.rest.now) =
    ap (λ (list : List (String Global)). after_replicate (texts_of list)) (sym c.as_slice.ensures.value) ∙ sym c.after_replicate.ensures
    ∙ ap (option_map (λ rest. texts_of rest.now)) c.in-Some.is in
    let Ends : Option (List (List ℕ)) → Type 0 =
    λ after. EndsAsked g.S.Source g.K.Sink c.args.source.now c.run_words.new.source c.args.out.now c.run_words.new.out c.run_words.result
    (asked_with words after) in
    subst Ends (sym said) c.run_words.ensures.ends

pub returns-in-Some-clause-saved : goal.returns-in-Some-clause-saved
returns-in-Some-clause-saved g c =
    let words = texts_of c.args.words.now.items in
    let said : after_replicate words ≡ Some (texts_of c.in-Some.rest.now) =
    ap (λ (list : List (String Global)). after_replicate (texts_of list)) (sym c.as_slice.ensures.value) ∙ sym c.after_replicate.ensures
    ∙ ap (option_map (λ rest. texts_of rest.now)) c.in-Some.is in
    refused_saves shop_text _ _ _ UnknownCommand (no_model_command words _ said)

pub returns-in-None-clause-ends : goal.returns-in-None-clause-ends
returns-in-None-clause-ends g c =
    let words = texts_of c.args.words.now.items in
    let said : after_replicate words ≡ None =
    ap (λ (list : List (String Global)). after_replicate (texts_of list)) (sym c.as_slice.ensures.value) ∙ sym c.after_replicate.ensures
    ∙ ap (option_map (λ rest. texts_of rest.now)) c.in-None.is in
    let Ends : Option (List (List ℕ)) → Type 0 =
    λ after. EndsAsked g.S.Source g.K.Sink c.args.source.now c.run_words-in-None.new.source c.args.out.now c.run_words-in-None.new.out c.run_words-in-None.result (asked_with words after) in
    subst Ends (sym said) c.run_words-in-None.ensures.ends
