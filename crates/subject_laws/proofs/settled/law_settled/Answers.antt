-- Pins follow the gates that feed them, and a circuit settles.
use Rattle.subject_laws.proofs.CircuitLemmas.SettledLaw.{settling_law, settled_law, still_pins_law}
use Rattle.subject_laws.proofs.settled.law_settled.Goals as goal

pub returns-clause-arriving : goal.returns-clause-arriving
returns-clause-arriving c = settling_law

pub returns-clause-pins : goal.returns-clause-pins
returns-clause-pins c = still_pins_law

pub returns-clause-settled : goal.returns-clause-settled
returns-clause-settled c = settled_law
