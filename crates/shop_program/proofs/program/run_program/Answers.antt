-- What is answered comes of how the words end, and words that can't be read are answered by a line and a status.
use Rattle.std.proofs.Common.{sym, subst}
use Rattle.std.specs.Prelude.{IfSome}
use Rattle.sim_io.specs.Words.{model_settings, texts_of}
use Rattle.program_answers.specs.Answered.{Answers, streams}
use Rattle.program_answers.proofs.TopLemmas.{answers_asked, answers_no_words, if_read}
use Rattle.shop_text.specs.ShopTexts.{shop_text}
use Rattle.shop_program.specs.Answer.{asked_by}
use Rattle.model_program.specs.SavedRuns.{IsSavedSo}
use Rattle.shop_program.proofs.program.run_program.Goals as goal

pub returns-in-Ok-clause-read : goal.returns-in-Ok-clause-read
returns-in-Ok-clause-read g c =
    let old = streams c.args.source.now c.args.out.now c.args.notes.now in
    let new = streams c.run_words-ending.new.source c.run_words-ending.new.out c.conclude.new.notes in
    if_read (λ list. Answers g.S.Source g.K.Sink g.N.Sink c.conclude.result old new (asked_by list.items)) c.in-Ok.is
    (answers_asked _ _ _ _ _ _ _ c.conclude.ensures c.run_words-ending.ensures.ends (g.met.K.Sink.in_order c.run_words-ending.new.out))

pub returns-in-Ok-clause-saved : goal.returns-in-Ok-clause-saved
returns-in-Ok-clause-saved g c =
    let left = g.S.Source.left c.args.source.now in
    if_read (λ list. IfSome left (IsSavedSo shop_text (model_settings (texts_of list.items)) c.conclude.result)) c.in-Ok.is
    (subst (λ status. IfSome left (IsSavedSo shop_text (model_settings (texts_of c.in-Ok.words.items)) status)) (sym c.conclude.ensures.same_status)
    c.run_words-ending.ensures.saved)

pub returns-in-Err-clause-unread : goal.returns-in-Err-clause-unread
returns-in-Err-clause-unread g c = answers_no_words _ _ c.in-Err.is c.conclude_unread.ensures
