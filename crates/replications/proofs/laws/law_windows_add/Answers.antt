use Rattle.replications.proofs.CutLaw.{windows_add}
use Rattle.replications.proofs.laws.law_windows_add.Goals as goal

pub returns : goal.returns
returns c = windows_add
