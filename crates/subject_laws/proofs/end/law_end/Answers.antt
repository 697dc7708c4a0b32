-- Nothing happens past the end.
use Rattle.subject_laws.proofs.TotalLemmas.EndLaw.{records_end, totals_end}
use Rattle.subject_laws.proofs.end.law_end.Goals as goal

pub returns-clause-records : goal.returns-clause-records
returns-clause-records c = records_end

pub returns-clause-totals : goal.returns-clause-totals
returns-clause-totals c = totals_end
