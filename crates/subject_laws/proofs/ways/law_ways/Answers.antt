-- A job goes where its object sends it.
use Rattle.subject_laws.proofs.QueueLemmas.WaysLaw.{ways_law, others_stay_law}
use Rattle.subject_laws.proofs.ways.law_ways.Goals as goal

pub returns-clause-jobs : goal.returns-clause-jobs
returns-clause-jobs c = ways_law

pub returns-clause-others : goal.returns-clause-others
returns-clause-others c = others_stay_law
