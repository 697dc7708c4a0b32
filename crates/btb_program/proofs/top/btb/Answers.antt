-- What is answered comes of how the words end.
use Rattle.std.proofs.Common.{sym, subst}
use Rattle.std.specs.Prelude.{IfSome}
use Rattle.sim_io.specs.Words.{settings, texts_of}
use Rattle.program_answers.proofs.TopLemmas.{answers_asked}
use Rattle.btb_program.specs.SavedRuns.{IsSavedSo}
use Rattle.btb_program.proofs.top.btb.Goals as goal

pub returns-clause-answers : goal.returns-clause-answers
returns-clause-answers g c =
    answers_asked _ _ _ _ _ _ _ c.conclude.ensures c.run_words-ending.ensures.ends (g.met.K.Sink.in_order c.run_words-ending.new.out)

pub returns-clause-saved : goal.returns-clause-saved
returns-clause-saved g c =
    let said = IsSavedSo (settings (texts_of c.args.words.now.items)) in
    subst (λ status. IfSome (g.S.Source.left c.args.source.now) (said status)) (sym c.conclude.ensures.same_status) c.run_words-ending.ensures.saved
