-- PHOLD keeps its population.
use Rattle.subject_laws.proofs.PholdLemmas.PopulationLaw.{population_stays}
use Rattle.subject_laws.proofs.population.law_population.Goals as goal

pub returns : goal.returns
returns c = population_stays
