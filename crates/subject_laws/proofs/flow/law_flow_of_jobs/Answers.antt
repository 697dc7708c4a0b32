-- What comes to an object is what was sent to it.
use Rattle.subject_laws.proofs.TotalLemmas.FlowLaw.{flow_law}
use Rattle.subject_laws.proofs.flow.law_flow_of_jobs.Goals as goal

pub returns : goal.returns
returns c = flow_law
