-- Busy servers times ticks are what was drawn.
use Rattle.subject_laws.proofs.TimeLemmas.TimesLaw.{utilisation_law}
use Rattle.subject_laws.proofs.utilisation.law_utilisation.Goals as goal

pub returns : goal.returns
returns c = utilisation_law
