-- The totals of a station account for its jobs and for the time of its servers.
use Rattle.subject_laws.proofs.TotalLemmas.TotalsLaw.{totals_law}
use Rattle.subject_laws.proofs.totals.law_totals.Goals as goal

pub returns : goal.returns
returns c = totals_law
