use Rattle.replications.proofs.WindowLaw.{window_law}
use Rattle.replications.proofs.laws.law_window.Goals as goal

pub returns : goal.returns
returns c = window_law
