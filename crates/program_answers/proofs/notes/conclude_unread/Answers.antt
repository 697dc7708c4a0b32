-- What is noted is the line of words that can't be read.
use Rattle.program_answers.proofs.TopLemmas.{notes_no_words}
use Rattle.program_answers.proofs.notes.conclude_unread.Goals as goal

pub returns : goal.returns
returns g c =
    notes_no_words _ _ _ _ _ c.conclude.ensures c.unread_words.ensures.refusal c.unread_words.ensures.no_memory c.unread_words.ensures.no_text
