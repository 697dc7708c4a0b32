-- All of the line is a prefix of it, and stays one.
use Rattle.sim_io.proofs.TakenLemmas.{Appends-kept}
use Rattle.sim_io.proofs.TransferLemmas.{all_prefix}
use Rattle.program_answers.proofs.notes.hand_on_note.Goals as goal

pub returns-clause-prefix : goal.returns-clause-prefix
returns-clause-prefix g c = all_prefix _ _ _ (Appends-kept _ _ _ _ c.in_ok-note.ensures.all c.flush.ensures.taken)
