-- A source makes its jobs when it drew that it would.
use Rattle.subject_laws.proofs.TimeLemmas.SourcesLaw.{sources_law}
use Rattle.subject_laws.proofs.sources.law_sources.Goals as goal

pub returns : goal.returns
returns c = sources_law
