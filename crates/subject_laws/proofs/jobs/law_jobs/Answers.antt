-- No job is lost or doubled.
use Rattle.subject_laws.proofs.JobLemmas.JobsLaw.{jobs_law}
use Rattle.subject_laws.proofs.jobs.law_jobs.Goals as goal

pub returns : goal.returns
returns c = jobs_law
