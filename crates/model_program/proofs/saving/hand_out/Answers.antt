-- All of the text is a prefix of it, and stays one.
use Rattle.sim_io.proofs.TakenLemmas.{Appends-kept}
use Rattle.sim_io.proofs.TransferLemmas.{all_prefix}
use Rattle.model_program.proofs.saving.hand_out.Goals as goal

pub returns-clause-prefix : goal.returns-clause-prefix
returns-clause-prefix g c = all_prefix _ _ _ (Appends-kept _ _ _ _ c.in_ok-write_all.ensures.all c.flush.ensures.taken)
