-- Each job of a shop is at one place, or gone.
use Rattle.shop_laws.proofs.JobsLaw.{each_job_once}
use Rattle.shop_laws.proofs.jobs.law_jobs.Goals as goal

pub returns : goal.returns
returns c = each_job_once
