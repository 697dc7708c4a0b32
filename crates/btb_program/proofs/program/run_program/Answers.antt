-- Words that can't be read are answered by a line and a status, and nothing else.
use Rattle.program_answers.proofs.TopLemmas.{answers_no_words}
use Rattle.btb_program.proofs.program.run_program.Goals as goal

pub returns-in-Err-clause-unread : goal.returns-in-Err-clause-unread
returns-in-Err-clause-unread g c = answers_no_words _ _ c.in-Err.is c.conclude_unread.ensures
