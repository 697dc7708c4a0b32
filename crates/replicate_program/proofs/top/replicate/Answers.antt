-- What is answered comes of how the words end, and words that can't be read are answered by a line and a status.
use Rattle.std.proofs.Common.{◌≤◌, List, String, sym, subst, arith}
use Rattle.std.specs.declared.alloc.Global.{Global}
use Rattle.program_answers.specs.declared.status.TheConstants.{EVENT_LIMIT}
use Rattle.program_answers.specs.Answered.{Answers, EndsAsked, streams}
use Rattle.program_answers.proofs.TopLemmas.{answers_asked, answers_no_words, if_read}
use Rattle.replicate_program.specs.TableAnswers.{table_asked_by}
use Rattle.replicate_program.proofs.top.replicate.Goals as goal

pub returns-in-Ok-clause-read : goal.returns-in-Ok-clause-read
returns-in-Ok-clause-read g c =
    let old = streams c.args.source.now c.args.out.now c.args.notes.now in
    let new = streams c.run_words-ending.new.source c.run_words-ending.new.out c.conclude.new.notes in
    let Ends : List (String Global) → Type 0 = λ list.
    EndsAsked g.S.Source g.K.Sink old.source new.source old.out new.out c.run_words-ending.result (table_asked_by list) in
    if_read (λ list. Answers g.S.Source g.K.Sink g.N.Sink c.conclude.result old new (table_asked_by list.items)) c.in-Ok.is
    (answers_asked _ _ _ _ _ _ _ c.conclude.ensures (subst Ends c.as_slice.ensures.value c.run_words-ending.ensures.ends)
    (g.met.K.Sink.in_order c.run_words-ending.new.out))

pub returns-in-Ok-clause-known : goal.returns-in-Ok-clause-known
returns-in-Ok-clause-known g c = subst (λ status. status ≤ EVENT_LIMIT) (sym c.conclude.ensures.same_status) c.run_words-ending.ensures.known

pub returns-in-Err-clause-unread : goal.returns-in-Err-clause-unread
returns-in-Err-clause-unread g c = answers_no_words _ _ c.in-Err.is c.conclude_unread.ensures

pub returns-in-Err-clause-known : goal.returns-in-Err-clause-known
returns-in-Err-clause-known g c = omega (arith, c.conclude_unread.ensures.known)
