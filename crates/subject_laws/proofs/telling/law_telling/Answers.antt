-- Being quiet or traced changes notes alone.
use Rattle.subject_laws.proofs.QueueLemmas.TellingLaw.{plain_differs, telling_changes_notes}
use Rattle.subject_laws.proofs.telling.law_telling.Goals as goal

pub returns-clause-plain : goal.returns-clause-plain
returns-clause-plain c = plain_differs

pub returns-clause-alike : goal.returns-clause-alike
returns-clause-alike c = telling_changes_notes
