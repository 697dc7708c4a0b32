-- When jobs are lost, and when a station or a sink fails.
use Rattle.subject_laws.proofs.QueueLemmas.LossesLaw.{losses_law, late_jobs_law}
use Rattle.subject_laws.proofs.losses.law_losses.Goals as goal

pub returns-clause-losses : goal.returns-clause-losses
returns-clause-losses c = losses_law

pub returns-clause-late : goal.returns-clause-late
returns-clause-late c = late_jobs_law
