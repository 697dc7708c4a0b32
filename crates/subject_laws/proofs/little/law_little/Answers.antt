-- Waiting jobs times ticks are what jobs wait.
use Rattle.subject_laws.proofs.TimeLemmas.WaitsLaw.{little_law}
use Rattle.subject_laws.proofs.little.law_little.Goals as goal

pub returns : goal.returns
returns c = little_law
